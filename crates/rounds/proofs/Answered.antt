-- Lists and objects in replies, by the store that they were read from and what came after.
use Rattle.std.proofs.Common.{◌≡◌, ◌⊎◌, ◌≤◌, ◌<◌, ◌==◌, inl, inr, ℕ, true, List, [], ◌∷◌, ◌++◌, Option, refl, sym, ap, subst, ◌∙◌, arith}
use Rattle.std.proofs.lemmas.Bool.{and_parts, eqb-true}
use Rattle.std.proofs.lemmas.Slice.Eq.{bytes_eq-Decides}
use Rattle.std.specs.Prelude.{bytes_eq}
use Rattle.objects.specs.declared.key.Key.{Key}
use Rattle.objects.specs.declared.kind.Kind.{Kind}
use Rattle.objects.specs.declared.kind.Kind.TheVariants.{Pod, ControllerRevision}
use Rattle.objects.specs.declared.object.Object.{Object}
use Rattle.objects.specs.Key.{kind_at, kind_at-kind_index, kind_index}
use Rattle.requests.specs.declared.request.Request.{Request}
use Rattle.requests.specs.declared.request.Request.TheVariants as request
use Rattle.requests.specs.declared.reply.Reply.TheVariants.{Listed}
use Rattle.plain_store.specs.AtKey.{Has}
use Rattle.plain_store.specs.Route.{route}
use Rattle.plain_store.specs.Run.{after}
use Rattle.plain_store.specs.Store.{Store, collection, is_of, opening, step}
use Rattle.plain_store.proofs.KeptUids.{drawn_in_run, filed_in_run}
use Rattle.plain_store.proofs.Past.{bounds}
use Rattle.plain_store.proofs.CompleteLists.{listed_there}
use Rattle.requests.specs.Lists.{Has as Among}
use Rattle.rounds.specs.Planned.{IsPlanned}
use Rattle.rounds.specs.Reconciler.{Reconciler}
use Rattle.rounds.specs.Transcript.{Entry, Incarnation, of_incarnation, requests_of}
use Rattle.rounds.proofs.Entries.{IsStepwise, stands_in}
use Rattle.rounds.proofs.Lists.{among_either, among_right, contains_among}

-- ---- a list in a reply

-- the store that was listed comes before this one
pub record WasListed (s end : Store) (kind : Kind) (namespace : List ℕ) (os : List Object) (n : ℕ) : Type 0 where
  pub first : List Request
  pub rest : List Request
  pub objects : os ≡ collection (after s first).objects kind namespace
  pub counted : n ≡ (after s first).counter
  pub end_is : end ≡ after (after s first) rest

list_reply : (s : Store) (kind : Kind) (namespace : List ℕ) → (step s (request.List kind namespace 0)).1 ≡ Listed (collection s.objects kind namespace) s.counter
unfolding step route
list_reply s kind namespace = refl

was_listed_by : (s : Store) (es : List Entry) (who : Option Incarnation) (kind : Kind) (namespace : List ℕ) (os : List Object) (n : ℕ) → IsStepwise s es
    → Among (who, request.List kind namespace 0, Listed os n) es → WasListed s (after s (requests_of es)) kind namespace os n
was_listed_by s [] who kind namespace os n run at = absurd at
was_listed_by s (e ∷ es) who kind namespace os n run (inl is) =
    let reply : Listed os n ≡ e.2 = ap (λ (x : Entry). x.2) is in
    let asked : request.List kind namespace 0 ≡ e.1 = ap (λ (x : Entry). x.1) is in
    let told : Listed os n ≡ Listed (collection s.objects kind namespace) s.counter =
    reply ∙ run.0 ∙ ap (λ r. (step s r).1) (sym asked) ∙ list_reply s kind namespace in
    record { first = []; rest = requests_of (e ∷ es); objects = cc; counted = cc; end_is = refl }
was_listed_by s (e ∷ es) who kind namespace os n run (inr at) =
    let w = was_listed_by (step s e.1).0 es who kind namespace os n run.1 at in
    record { first = e.1 ∷ w.first; rest = w.rest; objects = w.objects; counted = w.counted; end_is = w.end_is }

-- a list that an incarnation got
pub was_listed : (s : Store) (es : List Entry) (incarnation : Incarnation) (kind : Kind) (namespace : List ℕ) (os : List Object) (n : ℕ) → IsStepwise s es
    → Among (request.List kind namespace 0, Listed os n) (of_incarnation incarnation es) → WasListed s (after s (requests_of es)) kind namespace os n
was_listed s es incarnation kind namespace os n run at =
    let stands = stands_in incarnation (request.List kind namespace 0, Listed os n) es at in
    was_listed_by s es stands.who kind namespace os n run stands.at

-- ---- an object that was there

-- its numbers were allocated
pub record IsNumbered (o : Object) : Type 0 where
  pub uid_some : 0 < o.meta.uid
  pub uid_low : o.meta.uid ≤ 1048576
  pub revision_some : 0 < o.meta.revision
  pub revision_low : o.meta.revision ≤ 1048576

pub counter_low : (capacity : ℕ) (rs : List Request) → 1 ≤ capacity → capacity ≤ 1048576 → (after (opening capacity) rs).counter ≤ 1048576
counter_low capacity rs least most =
    let b = bounds (after (opening capacity) rs) (record { capacity = capacity; least = least; most = most; requests = rs; left = refl }) in
    let top = b.1 in
    let within = b.2 in omega (arith, top, within)

pub numbered : (capacity : ℕ) (rs : List Request) (key : Key) (o : Object) → 1 ≤ capacity → capacity ≤ 1048576 → Has (after (opening capacity) rs) key o → IsNumbered o
numbered capacity rs key o least most there =
    let drawn = drawn_in_run capacity rs key o there in
    let some = drawn.0 in
    let later = drawn.1 in
    let upto = drawn.2 in
    let low = counter_low capacity rs least most in
    record {
      uid_some = omega (arith, some);
      uid_low = omega (arith, later, upto, low);
      revision_some = omega (arith, some, later);
      revision_low = omega (arith, upto, low);
    }

-- the object was read from a store that comes before this one
pub record WasThere (capacity : ℕ) (end : Store) (kind : Kind) (namespace : List ℕ) (o : Object) : Type 0 where
  pub first : List Request
  pub rest : List Request
  pub there : Has (after (opening capacity) first) o.key o
  pub of : is_of kind namespace o.key ≡ true
  pub end_is : end ≡ after (after (opening capacity) first) rest
  pub numbers : IsNumbered o

pub was_there : (capacity : ℕ) (end : Store) (kind : Kind) (namespace : List ℕ) (os : List Object) (n : ℕ) (o : Object) → 1 ≤ capacity → capacity ≤ 1048576
    → WasListed (opening capacity) end kind namespace os n → Among o os → WasThere capacity end kind namespace o
was_there capacity end kind namespace os n o least most was at =
    let m = after (opening capacity) was.first in
    let found = listed_there m.objects kind namespace o (filed_in_run capacity was.first) (contains_among o _ (subst (Among o) was.objects at)) in
    record { first = was.first; rest = was.rest; there = found.0; of = found.1; end_is = was.end_is; numbers = numbered capacity was.first o.key o least most found.0 }

-- ---- what a plan read

-- a revision or a pod of the plan was read
pub record WasRead (capacity : ℕ) (end : Store) (namespace : List ℕ) (o : Object) : Type 0 where
  pub kind : Kind
  pub was : WasThere capacity end kind namespace o
  pub kind_is : (o.key.kind ≡ Pod) ⊎ (o.key.kind ≡ ControllerRevision)

pub kind_of : (kind : Kind) (namespace : List ℕ) (key : Key) → is_of kind namespace key ≡ true → key.kind ≡ kind
kind_of kind namespace key of =
    let same : kind_index key.kind ≡ kind_index kind = eqb-true _ _ (and_parts (kind_index key.kind == kind_index kind) (bytes_eq key.namespace namespace) of).0 in
    sym (kind_at-kind_index key.kind) ∙ ap kind_at same ∙ kind_at-kind_index kind

pub namespace_of : (kind : Kind) (namespace : List ℕ) (key : Key) → is_of kind namespace key ≡ true → key.namespace ≡ namespace
namespace_of kind namespace key of = (bytes_eq-Decides key.namespace namespace).0 (and_parts (kind_index key.kind == kind_index kind) (bytes_eq key.namespace namespace) of).1

pub plan_read : (c : Reconciler) (capacity : ℕ) (before : List Entry) (incarnation : Incarnation) (r : Request) (o : Object) → 1 ≤ capacity → capacity ≤ 1048576
    → IsStepwise (opening capacity) before → (plan : IsPlanned c (of_incarnation incarnation before) r) → Among o (plan.revisions ++ plan.pods)
    → WasRead capacity (after (opening capacity) (requests_of before)) c.set.namespace o
plan_read c capacity before incarnation r o least most run plan at =
    let end = after (opening capacity) (requests_of before) in
    let namespace = c.set.namespace in
    elim (among_either o plan.revisions plan.pods at) [
      | inl revision ↦ (let listed = was_listed (opening capacity) before incarnation ControllerRevision namespace plan.revisions plan.revisions_at run
          (subst (Among _) (sym plan.answered) (among_right _ plan.before _ (inr (inl refl)))) in
          let was = was_there capacity end ControllerRevision namespace plan.revisions plan.revisions_at o least most listed revision in
          record { kind = ControllerRevision; was = was; kind_is = inr (kind_of ControllerRevision namespace o.key was.of) })
      | inr pod ↦ (let listed = was_listed (opening capacity) before incarnation Pod namespace plan.pods plan.pods_at run
          (subst (Among _) (sym plan.answered) (among_right _ plan.before _ (inr (inr (inl refl))))) in
          let was = was_there capacity end Pod namespace plan.pods plan.pods_at o least most listed pod in
          record { kind = Pod; was = was; kind_is = inl (kind_of Pod namespace o.key was.of) })
    ]

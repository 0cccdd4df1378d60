-- What deletes remove, by what was read for them.
use Rattle.std.proofs.Common.{◌≡◌, ◌⊎◌, ◌≤◌, ◌<◌, ◌==◌, inl, inr, min, ℕ, Bool, true, false, cond, List, [], ◌∷◌, ◌++◌, length, Option, Some, None, decimal, refl, sym, ap, subst, ◌∙◌, arith}
use Rattle.std.specs.Prelude.{bytes_eq, not}
use Rattle.std.proofs.lemmas.Bool.{or_parts}
use Rattle.std.proofs.lemmas.Bool.Decides.{nat_tests}
use Rattle.std.proofs.lemmas.Bool.{cases_lt}
use Rattle.std.proofs.lemmas.Fmt.{decimal_injective, decimal_nonempty}
use Rattle.std.proofs.lemmas.Option.{same_Some}
use Rattle.std.proofs.lemmas.Slice.Eq.{bytes_eq-Decides}
use Rattle.objects.specs.declared.key.Key.{Key}
use Rattle.objects.specs.declared.kind.Kind.{Kind}
use Rattle.objects.specs.declared.kind.Kind.TheVariants.{StatefulSet, Pod, PersistentVolumeClaim, ControllerRevision}
use Rattle.objects.specs.declared.object.Object.{Object}
use Rattle.objects.specs.Again.{text_unless_zero}
use Rattle.objects.specs.Key.{kind_index}
use Rattle.objects.specs.Metadata.{owners_of}
use Rattle.objects.specs.Uid.{uid_number, uid_text}
use Rattle.objects.proofs.UidRound.{length-uid, uid_number-uid_text}
use Rattle.requests.specs.declared.request.Request.{Request}
use Rattle.requests.specs.declared.request.Request.TheVariants.{Delete}
use Rattle.requests.specs.declared.reply.Reply.TheVariants.{Listed}
use Rattle.requests.specs.Verdict.{conflicts, differs}
use Rattle.plain_store.specs.AtKey.{Has}
use Rattle.plain_store.specs.Run.{after}
use Rattle.plain_store.specs.Store.{Store, collection, is_of, opening, step}
use Rattle.plain_store.specs.Taken.{taken}
use Rattle.plain_store.proofs.KeptUids.{drawn_in_run, filed_in_run, uid_since, version_since}
use Rattle.plain_store.proofs.TakenObjects.{delete_takes}
use Rattle.plain_store.proofs.CompleteLists.{listed}
use Rattle.requests.specs.Lists.{Has as Among}
use Rattle.collector.specs.Collectable.{HasOwner, is_collectable, is_listed}
use Rattle.collector.proofs.Gone.{is_collectable-kept, is_gone-later, is_gone-listed}
use Rattle.rounds.specs.Phase.{list_of}
use Rattle.rounds.specs.Planned.{IsCollected, IsPlanned}
use Rattle.rounds.specs.Promises.{HasOwnerOf, HasRead}
use Rattle.rounds.specs.Reconciler.{Reconciler}
use Rattle.rounds.specs.Sound.{IsSound}
use Rattle.rounds.specs.Transcript.{Entry, Exchange, Incarnation, of_incarnation, requests_of}
use Rattle.rounds.proofs.Entries.{IsStepwise, after-append}
use Rattle.rounds.proofs.Knowing.{action, is_collection}
use Rattle.rounds.proofs.Lists.{among_contained, among_right, listed_among}
use Rattle.rounds.proofs.Answered.{WasListed, kind_of, namespace_of, numbered, plan_read, was_listed, was_there}

-- ---- what was given is what is there

same_bytes : (t x : List ℕ) (b : Bool) → bytes_eq t x ≡ b → not b ≡ false → t ≡ x
same_bytes t x true is h = (bytes_eq-Decides t x).0 is
same_bytes t x false is h = cc

same_text : (t x : List ℕ) → 0 < length t → differs (Some t) x ≡ false → t ≡ x
same_text [] x some h = absurd (omega (arith, some))
same_text (b ∷ bs) x some h = same_bytes (b ∷ bs) x (bytes_eq (b ∷ bs) x) refl h

same_uid : (version uid : Option (List ℕ)) (t : List ℕ) (o : Object) → 0 < length t → uid ≡ Some t → conflicts version uid o ≡ false → t ≡ uid_text o.meta.uid
same_uid version uid t o some is fits =
    same_text t (uid_text o.meta.uid) some
    (subst (λ u. differs u (uid_text o.meta.uid) ≡ false) is (or_parts (differs version (decimal o.meta.revision)) (differs uid (uid_text o.meta.uid)) fits).1)

same_version : (version uid : Option (List ℕ)) (t : List ℕ) (o : Object) → 0 < length t → version ≡ Some t → conflicts version uid o ≡ false → t ≡ decimal o.meta.revision
same_version version uid t o some is fits =
    same_text t (decimal o.meta.revision) some
    (subst (λ v. differs v (decimal o.meta.revision) ≡ false) is (or_parts (differs version (decimal o.meta.revision)) (differs uid (uid_text o.meta.uid)) fits).0)

same_number : (n m : ℕ) → 0 < n → n ≤ 1048576 → 0 < m → m ≤ 1048576 → uid_text n ≡ uid_text m → n ≡ m
same_number n m some low first most same =
    same_Some n m (sym (uid_number-uid_text n some (omega (arith, low))) ∙ ap uid_number same ∙ uid_number-uid_text m first (omega (arith, most)))

-- ---- a plan's delete

kind_by : {k l : Key} → k ≡ l → (l.kind ≡ Pod) ⊎ (l.kind ≡ ControllerRevision) → (k.kind ≡ Pod) ⊎ (k.kind ≡ ControllerRevision)
kind_by same kinds = subst (λ (x : Key). (x.kind ≡ Pod) ⊎ (x.kind ≡ ControllerRevision)) (sym same) kinds

pub plan_takes : (c : Reconciler) (capacity : ℕ) (before : List Entry) (incarnation : Incarnation) (k : Key) (uid version at : Option (List ℕ)) (o : Object)
    → 1 ≤ capacity → capacity ≤ 1048576 → IsStepwise (opening capacity) before → IsSound c
    → (plan : IsPlanned c (of_incarnation incarnation before) (Delete k uid version at))
    → taken (step (after (opening capacity) (requests_of before)) (Delete k uid version at)).1 ≡ Some o
    → HasRead (plan.revisions ++ plan.pods) o × ((o.key.kind ≡ Pod) ⊎ (o.key.kind ≡ ControllerRevision))
plan_takes c capacity before incarnation k uid version at o least most run sound plan told =
    let rs = requests_of before in
    let s = after (opening capacity) rs in
    let named = action c (of_incarnation incarnation before) (Delete k uid version at) sound plan in
    let read = plan_read c capacity before incarnation (Delete k uid version at) named.object least most run plan named.among in
    let was = read.was.numbers in
    let t = delete_takes s k uid version at o told in
    let now = numbered capacity rs k t.current least most t.there in
    let text = same_uid version uid (uid_text named.object.meta.uid) t.current (length-uid named.object.meta.uid was.uid_some) named.uid_is t.fits in
    let key = t.key_is ∙ filed_in_run capacity rs k t.current t.there ∙ named.key_is in (
      record {
        object = named.object;
        among = named.among;
        key_is = key;
        uid_is = t.uid_is ∙ sym (same_number named.object.meta.uid t.current.meta.uid was.uid_some was.uid_low now.uid_some now.uid_low text);
      },
      kind_by key read.kind_is,
    )

-- a plan's delete is of a pod or of a revision
pub plan_deletes : (c : Reconciler) (capacity : ℕ) (before : List Entry) (incarnation : Incarnation) (k : Key) (uid version at : Option (List ℕ))
    → 1 ≤ capacity → capacity ≤ 1048576 → IsStepwise (opening capacity) before → IsSound c → IsPlanned c (of_incarnation incarnation before) (Delete k uid version at)
    → (k.kind ≡ Pod) ⊎ (k.kind ≡ ControllerRevision)
plan_deletes c capacity before incarnation k uid version at least most run sound plan =
    let named = action c (of_incarnation incarnation before) (Delete k uid version at) sound plan in
    kind_by named.key_is (plan_read c capacity before incarnation (Delete k uid version at) named.object least most run plan named.among).kind_is

-- ---- a collector's delete

given_some : (n : ℕ) (text : List ℕ) → 0 < n → text_unless_zero n text ≡ Some text
given_some n text some = let other : (n == 0) ≡ false = grind (arith, nat_tests, some) in ap (λ b. cond b None (Some text)) other

-- the claim that is there now is as it was listed
claim_is : (capacity : ℕ) (rs : List Request) (namespace : List ℕ) (cs : List Object) (n : ℕ) (claim current : Object) (uid version : Option (List ℕ))
    → 1 ≤ capacity → capacity ≤ 1048576 → WasListed (opening capacity) (after (opening capacity) rs) PersistentVolumeClaim namespace cs n → Among claim cs
    → Has (after (opening capacity) rs) claim.key current → version ≡ text_unless_zero claim.meta.revision (decimal claim.meta.revision) → conflicts version uid current ≡ false
    → (current ≡ claim) × (claim.key.namespace ≡ namespace)
claim_is capacity rs namespace cs n claim current uid version least most listed' among there given' fits =
    let was = was_there capacity (after (opening capacity) rs) PersistentVolumeClaim namespace cs n claim least most listed' among in
    let now = numbered capacity rs claim.key current least most there in
    let some = was.numbers.revision_some in
    let low = was.numbers.revision_low in
    let upto = now.revision_low in
    let text = same_version version uid (decimal claim.meta.revision) current (decimal_nonempty claim.meta.revision (omega (arith, low)))
    (given' ∙ given_some claim.meta.revision (decimal claim.meta.revision) some) fits in
    let same = decimal_injective claim.meta.revision current.meta.revision (omega (arith, low)) (omega (arith, upto)) text in
    let m = after (opening capacity) was.first in
    let drawn = (drawn_in_run capacity was.first claim.key claim was.there).2 in (
      elim (version_since m was.rest claim.key current (subst (λ (s : Store). Has s claim.key current) was.end_is there)) [
        | inl later ↦ absurd (omega (arith, later, same, drawn))
        | inr still ↦ same_Some current claim (sym still ∙ was.there)
      ],
      namespace_of PersistentVolumeClaim namespace claim.key was.of,
    )

-- ---- owners

-- an owner of a collectable claim isn't listed, and its UID is not above the lists' resource version
pub record IsAbsent (owners : List (List Object)) (at n : ℕ) : Type 0 where
  pub unlisted : is_listed owners n ≡ true → ⊥
  pub low : n ≤ at

both_not : (b : Bool) → b ≡ true → b ≡ false → ⊥
both_not b holds fails = let both : true ≡ false = sym holds ∙ fails in cc

absent : (owners : List (List Object)) (at n : ℕ) (claim : Object) → is_collectable at (is_listed owners) claim ≡ true → HasOwner n (owners_of claim.body) → IsAbsent owners at n
absent owners at n claim is owns = record {
  unlisted = λ listed'. both_not _ is (is_collectable-kept at (is_listed owners) n claim (is_gone-listed at (is_listed owners) n listed') owns);
  low = elim (cases_lt at n) [
    | inl later ↦ absurd (both_not _ is (is_collectable-kept at (is_listed owners) n claim (is_gone-later at (is_listed owners) n later) owns))
    | inr upto ↦ upto
  ];
}

of_itself : (kind : Kind) (namespace : List ℕ) (key : Key) → key.kind ≡ kind → key.namespace ≡ namespace → is_of kind namespace key ≡ true
of_itself kind namespace key is in' =
    let same : (kind_index key.kind == kind_index kind) ≡ true = subst (λ k. (kind_index key.kind == kind_index k) ≡ true) is (grind (arith, nat_tests)) in
    rw (same, (bytes_eq-Decides key.namespace namespace).1 in') refl

-- no object of a kind that was listed has the UID, then or later
none_of : (capacity : ℕ) (rs more : List Request) (kind : Kind) (namespace : List ℕ) (os : List Object) (owners : List (List Object)) (revision at : ℕ) (key : Key) (o : Object)
    → WasListed (opening capacity) (after (opening capacity) rs) kind namespace os revision → Among os owners → at ≤ revision
    → key.kind ≡ kind → key.namespace ≡ namespace → Has (after (opening capacity) (rs ++ more)) key o → IsAbsent owners at o.meta.uid → ⊥
none_of capacity rs more kind namespace os owners revision at key o was within low is in' there gone =
    let m = after (opening capacity) was.first in
    let counted : revision ≡ m.counter = was.counted in
    let upto = gone.low in
    let end : after (opening capacity) (rs ++ more) ≡ after m (was.rest ++ more) =
    after-append (opening capacity) rs more ∙ ap (λ s. after s more) was.end_is ∙ sym (after-append m was.rest more) in
    elim (uid_since m (was.rest ++ more) key o (subst (λ (s : Store). Has s key o) end there)) [
      | inl later ↦ omega (arith, later, counted, low, upto)
      | inr had ↦ (let here = among_contained (collection m.objects kind namespace) had.0 (listed m.objects kind namespace key had.0 had.1 (of_itself kind namespace key is in')) in
          gone.unlisted (listed_among owners os had.0 o.meta.uid within (subst (Among had.0) (sym was.objects) here) had.2))
    ]

by_kind : (P : Kind → Type 0) → P StatefulSet → P Pod → P PersistentVolumeClaim → P ControllerRevision → (kind : Kind) → P kind
by_kind P a b c d StatefulSet = a
by_kind P a b c d Pod = b
by_kind P a b c d PersistentVolumeClaim = c
by_kind P a b c d ControllerRevision = d

-- these objects of the kind were listed, at that resource version or a later one
record HasList (c : Reconciler) (own : List Exchange) (kind : Kind) (objects : List Object) (at : ℕ) : Type 0 where
  pub revision : ℕ
  pub stands : Among (list_of c kind, Listed objects revision) own
  pub low : at ≤ revision

abbrev OwnersOf : {c : Reconciler} {own : List Exchange} {r : Request} → IsCollected c own r → List (List Object)
OwnersOf is = is.sets ∷ is.pods ∷ is.revisions ∷ is.others ∷ []

abbrev LeastOf : {c : Reconciler} {own : List Exchange} {r : Request} → IsCollected c own r → ℕ
LeastOf is = min (min (min is.sets_at is.pods_at) is.revisions_at) is.others_at

module _ (c : Reconciler) (own : List Exchange) (r : Request) (is : IsCollected c own r) where
  answered_among : (e : Exchange) → Among e ((list_of c PersistentVolumeClaim, Listed is.claims is.claims_at) ∷ (list_of c StatefulSet, Listed is.sets is.sets_at)
      ∷ (list_of c Pod, Listed is.pods is.pods_at) ∷ (list_of c ControllerRevision, Listed is.revisions is.revisions_at)
      ∷ (list_of c PersistentVolumeClaim, Listed is.others is.others_at) ∷ is.done) → Among e own
  answered_among e at = subst (Among e) (sym is.answered) (among_right e is.before _ at)

  claims_known : HasList c own PersistentVolumeClaim is.claims 0
  claims_known = record { revision = is.claims_at; stands = answered_among _ (inl refl); low = omega arith }

  sets_known : HasList c own StatefulSet is.sets (LeastOf is)
  sets_known = record { revision = is.sets_at; stands = answered_among _ (inr (inl refl)); low = omega arith }

  pods_known : HasList c own Pod is.pods (LeastOf is)
  pods_known = record { revision = is.pods_at; stands = answered_among _ (inr (inr (inl refl))); low = omega arith }

  revisions_known : HasList c own ControllerRevision is.revisions (LeastOf is)
  revisions_known = record { revision = is.revisions_at; stands = answered_among _ (inr (inr (inr (inl refl)))); low = omega arith }

  others_known : HasList c own PersistentVolumeClaim is.others (LeastOf is)
  others_known = record { revision = is.others_at; stands = answered_among _ (inr (inr (inr (inr (inl refl))))); low = omega arith }

pub collector_takes : (c : Reconciler) (capacity : ℕ) (before : List Entry) (incarnation : Incarnation) (k : Key) (uid version at : Option (List ℕ)) (claim : Object)
    → 1 ≤ capacity → capacity ≤ 1048576 → IsStepwise (opening capacity) before → IsSound c → IsCollected c (of_incarnation incarnation before) (Delete k uid version at)
    → taken (step (after (opening capacity) (requests_of before)) (Delete k uid version at)).1 ≡ Some claim
    → (more : List Request) → HasOwnerOf (after (opening capacity) (requests_of before ++ more)) claim → ⊥
collector_takes c capacity before incarnation k uid version at claim least most run sound is told more owner =
    let rs = requests_of before in
    let s = after (opening capacity) rs in
    let own = of_incarnation incarnation before in
    let asked = Delete k uid version at in
    let owners : List (List Object) = OwnersOf is in
    let i = is_collection c own asked sound is in
    let known = claims_known c own asked is in
    let deleted : Delete k uid version at ≡ Delete i.claim.key (text_unless_zero i.claim.meta.uid (uid_text i.claim.meta.uid)) (text_unless_zero i.claim.meta.revision (decimal i.claim.meta.revision)) None = i.deletes in
    let key_is : k ≡ i.claim.key = cc in
    let version_is : version ≡ text_unless_zero i.claim.meta.revision (decimal i.claim.meta.revision) = cc in
    let t = delete_takes s k uid version at claim told in
    let was = λ (kind : Kind) (os : List Object) (from : ℕ) (l : HasList c (of_incarnation incarnation before) kind os from).
    was_listed (opening capacity) before incarnation kind c.set.namespace os l.revision run l.stands in
    let same = claim_is capacity rs c.set.namespace is.claims known.revision i.claim t.current uid version least most
    (was PersistentVolumeClaim is.claims 0 known) i.among (subst (λ x. Has s x t.current) key_is t.there) version_is t.fits in
    let body : claim.body ≡ i.claim.body = t.body_is ∙ ap (λ (x : Object). x.body) same.0 in
    let home : owner.key.namespace ≡ c.set.namespace = owner.in_namespace ∙ ap (λ (x : Key). x.namespace) (t.key_is ∙ ap (λ (x : Object). x.key) same.0) ∙ same.1 in
    let gone = absent owners (LeastOf is) owner.object.meta.uid i.claim i.collectable (subst (λ b. HasOwner owner.object.meta.uid (owners_of b)) body owner.owns) in
    let none = λ (kind : Kind) (os : List Object) (l : HasList c (of_incarnation incarnation before) kind os (LeastOf is)) (within : Among os owners) (e : owner.key.kind ≡ kind).
    none_of capacity rs more kind c.set.namespace os owners l.revision (LeastOf is) owner.key owner.object (was kind os (LeastOf is) l) within l.low e home owner.there gone in
    by_kind (λ kind. owner.key.kind ≡ kind → ⊥)
    (λ e. none StatefulSet is.sets (sets_known c own asked is) (inl refl) e)
    (λ e. none Pod is.pods (pods_known c own asked is) (inr (inl refl)) e)
    (λ e. none PersistentVolumeClaim is.others (others_known c own asked is) (inr (inr (inr (inl refl)))) e)
    (λ e. none ControllerRevision is.revisions (revisions_known c own asked is) (inr (inr (inl refl))) e)
    owner.key.kind refl

-- a collector's delete is of a claim
pub collector_deletes : (c : Reconciler) (capacity : ℕ) (before : List Entry) (incarnation : Incarnation) (k : Key) (uid version at : Option (List ℕ))
    → 1 ≤ capacity → capacity ≤ 1048576 → IsStepwise (opening capacity) before → IsSound c → IsCollected c (of_incarnation incarnation before) (Delete k uid version at)
    → k.kind ≡ PersistentVolumeClaim
collector_deletes c capacity before incarnation k uid version at least most run sound is =
    let own = of_incarnation incarnation before in
    let asked = Delete k uid version at in
    let i = is_collection c own asked sound is in
    let deleted : Delete k uid version at ≡ Delete i.claim.key (text_unless_zero i.claim.meta.uid (uid_text i.claim.meta.uid)) (text_unless_zero i.claim.meta.revision (decimal i.claim.meta.revision)) None = i.deletes in
    let key_is : k ≡ i.claim.key = cc in
    let known = claims_known c own asked is in
    let listed' = was_listed (opening capacity) before incarnation PersistentVolumeClaim c.set.namespace is.claims known.revision run known.stands in
    let was = was_there capacity (after (opening capacity) (requests_of before)) PersistentVolumeClaim c.set.namespace is.claims known.revision i.claim least most listed' i.among in
    ap (λ (x : Key). x.kind) key_is ∙ kind_of PersistentVolumeClaim c.set.namespace i.claim.key was.of

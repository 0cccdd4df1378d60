-- Writes under keys of their own do what each does alone; so do the requests of a plan.
use Rattle.std.proofs.Common.{◌≡◌, ◌≢◌, ◌+◌, ◌≤◌, ◌<◌, ℕ, List, [], ◌∷◌, length, Option, Some, Ok, arith, refl, sym, ap, ◌∙◌, subst, true≢false}
use Rattle.std.specs.FinMap as finite
use Rattle.std.specs.List.{AllByRecursion}
use Rattle.std.proofs.lemmas.Option.{same_Some}
use Rattle.objects.specs.declared.key.Key.{Key}
use Rattle.objects.specs.declared.object.Object.{Object}
use Rattle.requests.specs.declared.request.Request.{Request}
use Rattle.requests.specs.declared.request.Request.TheVariants as request
use Rattle.requests.specs.declared.request.Request.TheVariants.{Compact, Create, Delete, Get, Update, UpdateStatus}
use Rattle.requests.specs.declared.reply.Reply.{Reply}
use Rattle.requests.specs.declared.verdict.Verdict.{Verdict}
use Rattle.requests.specs.declared.verdict.Verdict.TheVariants.{Refuse, Same, Write}
use Rattle.requests.specs.Change.{Change, creates, kept, marks, removes, updates, stamp}
use Rattle.requests.specs.Keys.{key_named}
use Rattle.requests.specs.Verdict.{verdict}
use Rattle.set_views.specs.Set.{SetParts}
use Rattle.set_views.specs.SetReading.{set_of}
use Rattle.plain_store.specs.AtKey.{Has}
use Rattle.plain_store.specs.Route.{route}
use Rattle.plain_store.specs.Run.{after}
use Rattle.plain_store.specs.Store.{Store, carried_out, step, with_change}
use Rattle.plain_store.proofs.OneKey.{step_elsewhere}
use Rattle.plain_store.proofs.Past.{counter_step}
use Rattle.sets.specs.Plan.{most_actions}
use Rattle.resting.specs.Accepting.{DoesAsAlone, IsAcceptable, IsLeftBy, NameApart}
use Rattle.resting.specs.Acting.{IsPlannedOver, MayAct, after_plan, planned_requests}
use Rattle.resting.proofs.AcceptedPlans.{keys_differ}
use Rattle.resting.proofs.Accepting.{all_still}
use Rattle.resting.proofs.Acts.{IsElsewhere, capacity_step, untouched}
use Rattle.resting.proofs.RoundsOnPods.{may_send, sent_is}
use Rattle.resting.proofs.Turns.{carried, gone, written}
use Rattle.resting.proofs.UpToDate.{all_acceptable}

-- ---- one request
changed : (s : Store) (k : Key) (c : Change) → finite.get (with_change s k c).objects k ≡ kept c (s.counter + 1)
changed s k (creates o) = written s k (stamp (creates o) (s.counter + 1))
changed s k (updates o) = written s k (stamp (updates o) (s.counter + 1))
changed s k (marks o) = written s k (stamp (marks o) (s.counter + 1))
changed s k (removes o) = gone s k

left_by : (s : Store) (k : Key) (v : Verdict) → s.counter < s.capacity → IsLeftBy v (finite.get s.objects k) (finite.get (carried_out s k v).0.objects k)
left_by s k (Refuse reason) room = refl
left_by s k (Same o) room = refl
left_by s k (Write c) room = (s.counter + 1, ap (λ (x : Store × Reply). finite.get x.0.objects k) (carried s k c room) ∙ changed s k c)

at_key : (s : Store) (r : Request) (q k : Key) → s.counter < s.capacity → step s r ≡ carried_out s q (verdict r (finite.get s.objects q)) → Some q ≡ Some k
    → IsLeftBy (verdict r (finite.get s.objects k)) (finite.get s.objects k) (finite.get (step s r).0.objects k)
at_key s r q k room is named =
    let P : Key → Type 0 = λ x. IsLeftBy (verdict r (finite.get s.objects x)) (finite.get s.objects x) (finite.get (step s r).0.objects x) in
    let Q : Store × Reply → Type 0 = λ x. IsLeftBy (verdict r (finite.get s.objects q)) (finite.get s.objects q) (finite.get x.0.objects q) in
    subst P (same_Some q k named) (subst Q (sym is) (left_by s q (verdict r (finite.get s.objects q)) room))

does_alone : (s : Store) (r : Request) → IsAcceptable s r → s.counter < s.capacity → DoesAsAlone s (step s r).0 r
unfolding step route
does_alone s (Create d) is room k named = at_key s (Create d) d.object.key k room refl named
does_alone s (Update d) is room k named = at_key s (Update d) d.object.key k room refl named
does_alone s (UpdateStatus d) is room k named = at_key s (UpdateStatus d) d.object.key k room refl named
does_alone s (Delete key uid version at) is room k named = at_key s (Delete key uid version at) key k room refl named
does_alone s (Get key) is room k named = absurd (true≢false (sym is.write))
does_alone s (request.List kind namespace exact) is room k named = absurd (true≢false (sym is.write))
does_alone s (Compact n) is room k named = absurd (true≢false (sym is.write))

-- ---- one after another
-- another request before it
behind : (s t : Store) (r x : Request) → key_named x ≢ key_named r → DoesAsAlone (step s r).0 t x → DoesAsAlone s t x
behind s t r x other does k named =
    let same : finite.get (step s r).0.objects k ≡ finite.get s.objects k = step_elsewhere s r k (λ clash. other (named ∙ clash)) in
    let P : Option Object → Type 0 = λ o. IsLeftBy (verdict x o) o (finite.get t.objects k) in
    subst P same (does k named)

all_behind : (s t : Store) (r : Request) (rs : List Request) → AllByRecursion (λ x. key_named x ≢ key_named r) rs → AllByRecursion (DoesAsAlone (step s r).0 t) rs → AllByRecursion (DoesAsAlone s t) rs
all_behind s t r [] others all = tt
all_behind s t r (x ∷ rs) others all = (behind s t r x others.0 all.0, all_behind s t r rs others.1 all.1)

-- the others after it
others_named : (k : Key) (r : Request) (rs : List Request) → key_named r ≡ Some k → AllByRecursion (λ x. key_named x ≢ key_named r) rs → AllByRecursion (IsElsewhere k) rs
others_named k r [] named others = tt
others_named k r (x ∷ rs) named others = (λ clash. others.0 (sym clash ∙ sym named), others_named k r rs named others.1)

before_others : (s : Store) (r : Request) (rs : List Request) → AllByRecursion (λ x. key_named x ≢ key_named r) rs → DoesAsAlone s (step s r).0 r → DoesAsAlone s (after (step s r).0 rs) r
before_others s r rs others does k named =
    let P : Option Object → Type 0 = λ o. IsLeftBy (verdict r (finite.get s.objects k)) (finite.get s.objects k) o in
    subst P (sym (untouched (step s r).0 k rs (others_named k r rs named others))) (does k named)

pub all_alone : (s : Store) (rs : List Request) → NameApart rs → AllByRecursion (IsAcceptable s) rs → s.counter + length rs ≤ s.capacity → AllByRecursion (DoesAsAlone s (after s rs)) rs
all_alone s [] apart all room = tt
all_alone s (r ∷ rs) apart all room =
    let more = (counter_step s r).1 in
    let same = capacity_step s r in
    let later = all_alone (step s r).0 rs apart.1 (all_still s r rs apart.0 all.1) (omega (arith, room, more, same)) in
    (before_others s r rs apart.0 (does_alone s r all.0 (omega (arith, room))), all_behind s (after (step s r).0 rs) r rs apart.0 later)

-- ---- the requests of a plan
module _ (set : SetParts) (digits : ℕ) (moment : List ℕ) (s : Store) (plan : IsPlannedOver set digits s) (some : moment ≢ []) (may : MayAct set most_actions s) (is_there : Has s set.object.key set.object) (is_read : set_of set.object ≡ Ok set) where
  pub plan_alone : AllByRecursion (DoesAsAlone s (after_plan set digits moment s)) (planned_requests set digits moment s)
  plan_alone =
      let rs = planned_requests set digits moment s in
      let room : s.counter + length rs ≤ s.capacity = subst (λ (sending : List Request). s.counter + length sending ≤ s.capacity) (sym (sent_is set digits moment s plan)) (may_send set digits moment s plan some may).room in
      all_alone s rs (keys_differ set digits moment s plan some may is_there is_read) (all_acceptable set digits moment s plan some may is_there) room

-- A controller's whole round: its reads, the requests of its plan, and those of its collection.
use Rattle.std.proofs.Common.{◌≡◌, ◌==◌, ◌+◌, ℕ, zero, suc, Bool, true, false, if◌then◌else◌, List, [], ◌∷◌, length, filter, map, Ok, arith, refl, sym, ap, ◌∙◌, subst}
use Rattle.std.specs.Prelude.{◌||◌, ⊤}
use Rattle.std.specs.FinMap as finite
use Rattle.std.specs.List.{AllByRecursion}
use Rattle.objects.specs.declared.key.Key.{Key}
use Rattle.objects.specs.declared.kind.Kind.TheVariants.{ControllerRevision, PersistentVolumeClaim, Pod}
use Rattle.objects.specs.declared.object.Object.{Object}
use Rattle.requests.specs.declared.request.Request.{Request}
use Rattle.requests.specs.declared.request.Request.TheVariants as request
use Rattle.requests.specs.declared.request.Request.TheVariants.{Compact, Create, Delete, Get, Update, UpdateStatus}
use Rattle.requests.specs.declared.reply.Reply.{Reply}
use Rattle.requests.specs.declared.reply.Reply.TheVariants.{Refused, Unchanged}
use Rattle.requests.specs.declared.reply.Reason.TheVariants.{StoreFull}
use Rattle.requests.specs.declared.verdict.Verdict.{Verdict}
use Rattle.requests.specs.declared.verdict.Verdict.TheVariants.{Refuse, Same, Write}
use Rattle.requests.specs.Change.{accepted, stamp}
use Rattle.requests.specs.Verdict.{on_delete}
use Rattle.set_views.specs.Set.{SetParts}
use Rattle.set_views.specs.SetReading.{set_of}
use Rattle.set_views.specs.Steps.{◌>>=◌}
use Rattle.collector.specs.Collectable.{deletion, is_collectable, is_listed}
use Rattle.plain_store.specs.AtKey.{Has}
use Rattle.plain_store.specs.Route.{route}
use Rattle.plain_store.specs.Run.{after}
use Rattle.plain_store.specs.Store.{Store, carried_out, step, with_change}
use Rattle.rounds.specs.Accepted.{succeeded}
use Rattle.rounds.specs.Phase.{Phase, asks, deletes, is_refusal, listing_old_claims, reading_set, takes}
use Rattle.rounds.specs.Reconciler.{Reconciler}
use Rattle.controllers.specs.Planned.{or_none, requested, requested_for}
use Rattle.controllers.specs.Reconciler.{reconciler_with}
use Rattle.resting.specs.Accepting.{AreAccepted}
use Rattle.resting.specs.Acting.{planned_requests}
use Rattle.resting.specs.Still.{exchanged, exchanged_times, listed_in, owners_in, plan_over}
use Rattle.resting.specs.WholeRounds.{after_round, collection_over, requests_of_a_round}
use Rattle.resting.proofs.Accepting.{Succeeds, of_delete, plan_is_carried_out}
use Rattle.resting.proofs.Still.{least}

-- ---- deletes of claims, each of which may be refused
abbrev pub IsDelete : Request → Type 0
IsDelete (Create d) = ⊥
IsDelete (Get k) = ⊥
IsDelete (request.List kind namespace exact) = ⊥
IsDelete (Update d) = ⊥
IsDelete (UpdateStatus d) = ⊥
IsDelete (Delete k uid version at) = ⊤
IsDelete (Compact n) = ⊥

or_true : (b : Bool) → (b || true) ≡ true
or_true true = refl
or_true false = refl

-- a reply after which the controller goes on with its deletes
abbrev goes_on : Request → Reply → Bool
goes_on r reply = succeeded r reply || is_refusal reply

goes_on_by : (s : Store) (k : Key) (r : Request) (v : Verdict) → Succeeds r v → goes_on r (carried_out s k v).1 ≡ true
goes_on_by s k r (Refuse reason) fits = or_true (succeeded r (Refused reason))
goes_on_by s k r (Same o) fits = ap (λ b. b || is_refusal (Unchanged o)) fits
goes_on_by s k r (Write c) fits =
    elim (s.counter == s.capacity) as (λ b. let done : Store × Reply = if b then (s, Refused StoreFull) else (with_change s k c, accepted c (stamp c (s.counter + 1))) in goes_on r done.1 ≡ true) [
      | true ↦ or_true (succeeded r (Refused StoreFull))
      | false ↦ ap (λ b. b || is_refusal (accepted c (stamp c (s.counter + 1)))) (fits (s.counter + 1))
    ]

delete_goes_on : (s : Store) (r : Request) → IsDelete r → goes_on r (step s r).1 ≡ true
unfolding step route
delete_goes_on s (Create d) is = absurd is
delete_goes_on s (Get k) is = absurd is
delete_goes_on s (request.List kind namespace exact) is = absurd is
delete_goes_on s (Update d) is = absurd is
delete_goes_on s (UpdateStatus d) is = absurd is
delete_goes_on s (Delete k uid version at) is = goes_on_by s k (Delete k uid version at) (on_delete version uid at (finite.get s.objects k)) (of_delete k uid version at (finite.get s.objects k))
delete_goes_on s (Compact n) is = absurd is

abbrev At : Store → Phase → Store × Phase
At s p = (s, p)

collects : (c : Reconciler) (s : Store) (rs : List Request) → AllByRecursion IsDelete rs → exchanged_times (length rs) c (s, deletes rs) ≡ At (after s rs) reading_set
unfolding asks takes
collects c s [] all = refl
collects c s (r ∷ rs) all =
    ap (λ b. exchanged_times (length rs) c (At (step s r).0 (if b then deletes rs else reading_set))) (delete_goes_on s r all.0) ∙ collects c (step s r).0 rs all.1

-- the five lists before the deletes
lists_owners : (c : Reconciler) (s : Store) → exchanged_times 5 c (s, listing_old_claims) ≡ At s (deletes (collection_over c s))
unfolding step route asks takes
lists_owners c s = ap (λ (n : ℕ). At s (deletes (c.collect (listed_in s c.set PersistentVolumeClaim) (owners_in s c.set) n))) (least s.counter)

-- ---- a round
times_add : (c : Reconciler) (m n k : ℕ) (now : Store × Phase) → m + n ≡ k → exchanged_times k c now ≡ exchanged_times n c (exchanged_times m c now)
times_add c zero n k now is = let same : k ≡ n = omega arith in ap (λ (x : ℕ). exchanged_times x c now) same
times_add c (suc m) n zero now is = absurd (omega arith)
times_add c (suc m) n (suc k) now is = times_add c m n k (exchanged c now) (omega arith)

pub round_is : (c : Reconciler) (s : Store) (set : Object) → Has s c.set set → AreAccepted s (plan_over c s set) → AllByRecursion IsDelete (collection_over c (after s (plan_over c s set)))
    → exchanged_times (requests_of_a_round c s set) c (s, reading_set) ≡ At (after_round c s set) reading_set
round_is c s set there all gone =
    let plan = plan_over c s set in
    let planned = after s plan in
    let last = collection_over c planned in
    let p = length plan in
    let q = length last in
    times_add c 4 (p + (5 + q)) (9 + p + q) (At s reading_set) (omega arith)
    ∙ (times_add c p (5 + q) (p + (5 + q)) (exchanged_times 4 c (At s reading_set)) refl
    ∙ (ap (exchanged_times (5 + q) c) (plan_is_carried_out c s set there all)
    ∙ (times_add c 5 q (5 + q) (At planned listing_old_claims) refl
    ∙ (ap (exchanged_times q c) (lists_owners c planned)
    ∙ collects c planned last gone))))

-- ---- the controller of a set
all_deletes : (claims : List Object) → AllByRecursion IsDelete (map deletion claims)
all_deletes [] = tt
all_deletes (o ∷ os) = (tt, all_deletes os)

pub plan_over_is : (set : SetParts) (digits : ℕ) (moment : List ℕ) (s : Store) → set_of set.object ≡ Ok set → plan_over (reconciler_with set.object.key digits moment) s set.object ≡ planned_requests set digits moment s
unfolding requested
plan_over_is set digits moment s is =
    let key = set.object.key in
    ap (λ r. or_none (r >>= λ x. requested_for x digits moment (listed_in s key ControllerRevision) (listed_in s key Pod) (listed_in s key PersistentVolumeClaim))) is

pub controller_round : (set : SetParts) (digits : ℕ) (moment : List ℕ) (s : Store) → Has s set.object.key set.object → set_of set.object ≡ Ok set → AreAccepted s (planned_requests set digits moment s)
    → exchanged_times (requests_of_a_round (reconciler_with set.object.key digits moment) s set.object) (reconciler_with set.object.key digits moment) (s, reading_set)
    ≡ At (after_round (reconciler_with set.object.key digits moment) s set.object) reading_set
controller_round set digits moment s there read all =
    let c = reconciler_with set.object.key digits moment in
    let planned = after s (plan_over c s set.object) in
    let claims = listed_in planned set.object.key PersistentVolumeClaim in
    round_is c s set.object there (subst (AreAccepted s) (sym (plan_over_is set digits moment s read)) all)
    (all_deletes (filter (is_collectable planned.counter (is_listed (owners_in planned set.object.key))) claims))

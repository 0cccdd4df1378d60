-- A round over a still store only reads.
use Rattle.std.proofs.Common.{◌≡◌, ◌&&◌, ℕ, min, true, false, not, if◌then◌else◌, List, [], ◌∷◌, ◌++◌, Some, None, Ok, arith, refl, ap, ◌∙◌}
use Rattle.std.specs.List.{AllByRecursion}
use Rattle.std.specs.Option.{is_some}
use Rattle.std.specs.FinMap as map
use Rattle.objects.specs.declared.key.Key.{Key}
use Rattle.objects.specs.declared.kind.Kind.TheVariants.{StatefulSet, Pod, PersistentVolumeClaim, ControllerRevision}
use Rattle.objects.specs.declared.object.Object.{Object}
use Rattle.set_views.specs.declared.readiness.Readiness.{Readiness}
use Rattle.set_views.specs.declared.readiness.Readiness.TheVariants.{Failed, NotReady, Ready}
use Rattle.set_views.specs.Readiness.{readiness_of}
use Rattle.set_views.specs.Set.{SetParts}
use Rattle.set_views.specs.SetReading.{set_of}
use Rattle.set_views.specs.Steps.{◌>>=◌}
use Rattle.objects.specs.Uid.{uid_text}
use Rattle.requests.specs.declared.request.Request.TheVariants.{Delete, UpdateStatus}
use Rattle.rounds.specs.Kubelet.{has_ended, is_ready as kubelet_ready, made_ready, turn_requests_for, turn_requests_of}
use Rattle.plain_store.specs.Route.{route}
use Rattle.plain_store.specs.Store.{Store, found, step}
use Rattle.rounds.specs.Phase.{Phase, acts, asks, deletes, from_set, listing_claims, listing_old_claims, listing_owner_claims, listing_owner_pods, listing_owner_revisions, listing_owner_sets, listing_pods, listing_revisions, reading_set, takes}
use Rattle.rounds.specs.Reconciler.{Reconciler}
use Rattle.controllers.specs.Planned.{or_none, requested, requested_for, requests_of}
use Rattle.controllers.specs.Reconciler.{reconciler_with}
use Rattle.resting.specs.Rest.{RestsOver}
use Rattle.resting.specs.Still.{IsStill, IsTendedPod, ShowsRest, exchanged, exchanged_times, listed_in, plan_over}
use Rattle.resting.proofs.Lists.{rest_is_empty}

pub least : (n : ℕ) → min (min (min n n) n) n ≡ n
least n = omega arith

abbrev At : Store → Phase → Store × Phase
At s p = (s, p)

read_set : (c : Reconciler) (s : Store) (set : Object) → map.get s.objects c.set ≡ Some set → exchanged c (s, reading_set) ≡ At s (listing_revisions set)
unfolding step route asks takes
read_set c s set e = ap (λ o. At s (from_set (found o))) e

list_revisions : (c : Reconciler) (s : Store) (set : Object) → exchanged c (s, listing_revisions set) ≡ At s (listing_pods set (listed_in s c.set ControllerRevision))
unfolding step route asks takes
list_revisions c s set = refl

list_pods : (c : Reconciler) (s : Store) (set : Object) (revisions : List Object) → exchanged c (s, listing_pods set revisions) ≡ At s (listing_claims set revisions (listed_in s c.set Pod))
unfolding step route asks takes
list_pods c s set revisions = refl

list_claims : (c : Reconciler) (s : Store) (set : Object) (revisions pods : List Object) → c.plan set revisions pods (listed_in s c.set PersistentVolumeClaim) ≡ [] → exchanged c (s, listing_claims set revisions pods) ≡ At s listing_old_claims
unfolding step route asks takes
list_claims c s set revisions pods none = ap (λ rs. At s (acts rs)) none

-- from the set to the first request of its plan
pub reads_and_plans : (c : Reconciler) (s : Store) (set : Object) → map.get s.objects c.set ≡ Some set → exchanged_times 4 c (s, reading_set) ≡ At s (acts (plan_over c s set))
unfolding step route asks takes
reads_and_plans c s set e = ap (λ o. exchanged_times 3 c (At s (from_set (found o)))) e

list_old_claims : (c : Reconciler) (s : Store) → exchanged c (s, listing_old_claims) ≡ At s (listing_owner_sets (listed_in s c.set PersistentVolumeClaim))
unfolding step route asks takes
list_old_claims c s = refl

list_owner_sets : (c : Reconciler) (s : Store) (claims : List Object) → exchanged c (s, listing_owner_sets claims) ≡ At s (listing_owner_pods claims (listed_in s c.set StatefulSet) s.counter)
unfolding step route asks takes
list_owner_sets c s claims = refl

list_owner_pods : (c : Reconciler) (s : Store) (claims sets : List Object) (at : ℕ) → exchanged c (s, listing_owner_pods claims sets at) ≡ At s (listing_owner_revisions claims sets (listed_in s c.set Pod) (min at s.counter))
unfolding step route asks takes
list_owner_pods c s claims sets at = refl

list_owner_revisions : (c : Reconciler) (s : Store) (claims sets pods : List Object) (at : ℕ) → exchanged c (s, listing_owner_revisions claims sets pods at) ≡ At s (listing_owner_claims claims sets pods (listed_in s c.set ControllerRevision) (min at s.counter))
unfolding step route asks takes
list_owner_revisions c s claims sets pods at = refl

list_owner_claims : (c : Reconciler) (s : Store) (claims sets pods revisions : List Object) (at : ℕ) → c.collect claims (sets ∷ pods ∷ revisions ∷ listed_in s c.set PersistentVolumeClaim ∷ []) (min at s.counter) ≡ []
    → exchanged c (s, listing_owner_claims claims sets pods revisions at) ≡ At s reading_set
unfolding step route asks takes
list_owner_claims c s claims sets pods revisions at none = ap (λ rs. At s (deletes rs)) none

pub stays : (c : Reconciler) (s : Store) → IsStill c s → exchanged_times 9 c (s, reading_set) ≡ At s reading_set
stays c s still =
    let revisions = listed_in s c.set ControllerRevision in
    let pods = listed_in s c.set Pod in
    let claims = listed_in s c.set PersistentVolumeClaim in
    let sets = listed_in s c.set StatefulSet in
    let none : c.collect claims (sets ∷ pods ∷ revisions ∷ claims ∷ []) (min (min (min s.counter s.counter) s.counter) s.counter) ≡ [] =
    ap (c.collect claims (sets ∷ pods ∷ revisions ∷ claims ∷ [])) (least s.counter) ∙ still.collects_nothing in
    ap (exchanged_times 8 c) (read_set c s still.set still.found)
    ∙ (ap (exchanged_times 7 c) (list_revisions c s still.set)
    ∙ (ap (exchanged_times 6 c) (list_pods c s still.set revisions)
    ∙ (ap (exchanged_times 5 c) (list_claims c s still.set revisions pods still.plans_nothing)
    ∙ (ap (exchanged_times 4 c) (list_old_claims c s)
    ∙ (ap (exchanged_times 3 c) (list_owner_sets c s claims)
    ∙ (ap (exchanged_times 2 c) (list_owner_pods c s claims sets s.counter)
    ∙ (ap (exchanged_times 1 c) (list_owner_revisions c s claims sets pods (min s.counter s.counter))
    ∙ list_owner_claims c s claims sets pods revisions (min (min s.counter s.counter) s.counter) none)))))))

-- ---- the controller of a set
rest_plans_nothing : (key : Key) (digits : ℕ) (moment : List ℕ) (o : Object) (set : SetParts) (revisions pods claims : List Object) → set_of o ≡ Ok set
    → RestsOver set digits revisions pods claims → (reconciler_with key digits moment).plan o revisions pods claims ≡ []
unfolding requested requested_for
rest_plans_nothing key digits moment o set revisions pods claims is rest =
    ap (λ r. or_none (r >>= λ x. requested_for x digits moment revisions pods claims)) is
    ∙ ap (λ r. or_none (r >>= λ actions. Ok (requests_of set.object.key.namespace moment actions))) (rest_is_empty set digits revisions pods claims rest)

pub rest_stays : (key : Key) (digits : ℕ) (moment : List ℕ) (s : Store) → ShowsRest key digits s → exchanged_times 9 (reconciler_with key digits moment) (s, reading_set) ≡ At s reading_set
rest_stays key digits moment s shows =
    stays (reconciler_with key digits moment) s (record {
      set = shows.object;
      found = shows.found;
      plans_nothing = rest_plans_nothing key digits moment shows.object shows.set (listed_in s key ControllerRevision) (listed_in s key Pod) (listed_in s key PersistentVolumeClaim) shows.is_read shows.at_rest;
      collects_nothing = shows.none_left;
    })

-- ---- the kubelet
turn_asks_none : (o : Object) → IsTendedPod o → turn_requests_for o ≡ []
turn_asks_none o is =
    elim (readiness_of o.body) as (λ (r : Readiness). readiness_of o.body ≡ r
    → (if not (is_some o.meta.deletion) && has_ended r then [] else if is_some o.meta.deletion then Delete o.key (Some (uid_text o.meta.uid)) None None ∷ [] else if kubelet_ready r then [] else UpdateStatus (made_ready o) ∷ []) ≡ []) [
      | Ready ↦ λ h. ap (λ b. if not b && false then [] else if b then Delete o.key (Some (uid_text o.meta.uid)) None None ∷ [] else []) is.0
      | Failed ↦ λ h. ap (λ b. if not b && true then [] else if b then Delete o.key (Some (uid_text o.meta.uid)) None None ∷ [] else UpdateStatus (made_ready o) ∷ []) is.0
      | NotReady ↦ λ h. absurd (is.1 h)
    ] refl

pub turns_ask_none : (pods : List Object) → AllByRecursion IsTendedPod pods → turn_requests_of pods ≡ []
turns_ask_none [] all = refl
turns_ask_none (o ∷ os) all = (λ k. turn_asks_none o all.0 k ++ turns_ask_none os all.1 k)

-- The create of a pod under OrderedReady, by the plan that it comes from (Kubernetes, "StatefulSets": "OrderedReady Pod
-- Management").
use Rattle.std.specs.Prelude.{◌≡◌, ◌<◌, ℕ, Bool, true, false, List, [], ◌∷◌, ◌++◌, filter, find, Some, None, Ok}
use Rattle.objects.specs.declared.key.Key.{Key}
use Rattle.objects.specs.declared.kind.Kind.TheVariants.{Pod}
use Rattle.objects.specs.declared.object.Draft.{Draft}
use Rattle.objects.specs.declared.object.Object.{Object}
use Rattle.requests.specs.declared.request.Request.{Request}
use Rattle.requests.specs.declared.request.Request.TheVariants as request
use Rattle.requests.specs.declared.request.Request.TheVariants.{Create, Get, Update, UpdateStatus, Delete, Compact}
use Rattle.requests.specs.declared.reply.Reply.{Reply}
use Rattle.set_views.specs.declared.policies.Policy.TheVariants.{OrderedReady}
use Rattle.set_views.specs.Set.{SetParts}
use Rattle.set_views.specs.SetReading.{set_of}
use Rattle.set_views.specs.Predicates.{in_range, is_kind}
use Rattle.pod_steps.specs.Listed.{is_named}
use Rattle.sets.specs.Actions.{name_at}
use Rattle.sets.specs.Laws.{HasHealthyTarget}
use Rattle.sets.specs.PlanOfLists.{views_of}
use Rattle.rounds.specs.Planned.{IsPlanned}
use Rattle.rounds.specs.Reconciler.{Reconciler}
use Rattle.rounds.specs.Transcript.{Entry, Exchange, Incarnation, of_incarnation}
use Rattle.controllers.specs.Reconciler.{reconciler_with}

-- the request creates or deletes a pod
abbrev pub is_on_pod : Request → Bool
is_on_pod (Create d) = is_kind Pod d.object.key.kind
is_on_pod (Get k) = false
is_on_pod (request.List kind namespace exact) = false
is_on_pod (Update d) = false
is_on_pod (UpdateStatus d) = false
is_on_pod (Delete k uid version at) = is_kind Pod k.kind
is_on_pod (Compact to) = false

-- The create is for an ordinal in range, under a name that no listed pod has, and each lower ordinal in range has a
-- healthy pod of the set: so it is for the least ordinal without one. It is the only one of these requests that creates
-- or deletes a pod.
pub record IsInTurn (set : SetParts) (pods : List Object) (requests : List Request) (d : Draft) : Type 0 where
  pub ordinal : ℕ
  pub name_is : d.object.key.name ≡ name_at set ordinal
  pub within : in_range set ordinal ≡ true
  pub absent : find (is_named set ordinal) (views_of set pods) ≡ None
  pub lower : (j : ℕ) → in_range set j ≡ true → j < ordinal → HasHealthyTarget set (views_of set pods) j
  pub alone : filter is_on_pod requests ≡ Create d ∷ []

-- the reconciler of a controller of a set
abbrev pub IsOfSet : Reconciler → Type 0
IsOfSet c = (set : Key) × (digits : ℕ) × (moment : List ℕ) × (c ≡ reconciler_with set digits moment)

-- if the set that was read for the plan is OrderedReady, the create comes in turn among the plan's requests
abbrev pub ComesInTurn : (c : Reconciler) (own : List Exchange) (d : Draft) → IsPlanned c own (Create d) → Type 0
ComesInTurn c own d plan = (set : SetParts) → set_of plan.set ≡ Ok set → set.policy ≡ OrderedReady
    → IsInTurn set plan.pods (c.plan plan.set plan.revisions plan.pods plan.claims) d

-- Each create of a pod that an incarnation sends comes from a plan over the replies that it got in this round, and in
-- turn.
abbrev pub PodsComeInTurn : (ℕ → Reconciler) → List Entry → Type 0
PodsComeInTurn reconcilers entries =
    (before later : List Entry) (incarnation : Incarnation) (d : Draft) (reply : Reply)
    → entries ≡ before ++ ((Some incarnation, Create d, reply) ∷ later) → d.object.key.kind ≡ Pod
    → (plan : IsPlanned (reconcilers incarnation.controller) (of_incarnation incarnation before) (Create d))
    × ComesInTurn (reconcilers incarnation.controller) (of_incarnation incarnation before) d plan

-- A set at rest: what was listed is as its spec says.
use Rattle.std.specs.Prelude.{◌≡◌, ℕ, true, List, [], None, Ok}
use Rattle.objects.specs.declared.object.Object.{Object}
use Rattle.set_views.specs.Firsts.{is_held}
use Rattle.set_views.specs.Pod.{PodParts}
use Rattle.set_views.specs.Set.{SetParts}
use Rattle.set_views.specs.Predicates.{in_range}
use Rattle.revisions.specs.History.{expired_revisions}
use Rattle.revisions.specs.Plan.{plan_of, settled}
use Rattle.revisions.specs.Revision.{listed}
use Rattle.pod_steps.specs.Replicas.{Pods}
use Rattle.manifests.specs.BuiltStatus.{built_status}
use Rattle.claims.specs.Changes.{keep_claims}
use Rattle.claims.specs.Listed.{listed_claim}
use Rattle.sets.specs.Actions.{Claims}
use Rattle.sets.specs.FullPlan.{current_name, status_of}
use Rattle.sets.specs.Plan.{fitting_pods}
use Rattle.sets.specs.PlanOfLists.{owned_of, views_of}
use Rattle.convergence.specs.Standing.{Stands}

pub record IsAtRest (set : SetParts) (claims : Claims) (pods : List PodParts) (owned : List Object) (current update : Object) (replicas : Pods) : Type 0 where
  pub stands : Stands set replicas
  -- no listed claim of an ordinal in range has other owners than wanted; one may be missing
  pub claims_kept : (i : ℕ) → in_range set i ≡ true → keep_claims set claims i ≡ []
  -- no revision is left to delete by the history limit
  pub none_expired : expired_revisions set pods (current_name set replicas current update) update.key.name owned ≡ []
  -- the status is as it is to be
  pub status_written : built_status set (status_of set replicas (current_name set replicas current update) update.key.name) ≡ None

-- over lists: the update revision is in place, and nothing is refused
pub record RestsOver (set : SetParts) (digits : ℕ) (revisions pods claims : List Object) : Type 0 where
  -- the owned revisions, and of them the current and the update one
  pub owned : List Object
  pub current : Object
  pub update : Object
  pub replicas : Pods
  pub in_place : plan_of set (is_held (listed set revisions)) digits (owned_of set revisions) ≡ Ok (settled owned current update)
  pub fit : fitting_pods set update.key.name current.key.name (views_of set pods) ≡ Ok replicas
  pub at_rest : IsAtRest set (listed_claim set claims) (views_of set pods) owned current update replicas

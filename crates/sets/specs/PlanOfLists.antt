-- The plan of a set as one function of what was listed.
use Rattle.std.specs.Prelude.{ℕ, List, map, Result}
use Rattle.objects.specs.declared.object.Object.{Object}
use Rattle.set_views.specs.declared.fault.PlanError.{PlanError}
use Rattle.set_views.specs.Firsts.{is_held}
use Rattle.set_views.specs.Pod.{PodParts, pod_with}
use Rattle.set_views.specs.Set.{SetParts}
use Rattle.revisions.specs.Plan.{plan_of}
use Rattle.revisions.specs.Revision.{listed, owned_among, revision_cmp}
use Rattle.pod_steps.specs.Views.{listed_pods}
use Rattle.claims.specs.Listed.{listed_claim}
use Rattle.sets.specs.declared.action.Action.{Action}
use Rattle.sets.specs.Order.{in_order}
use Rattle.sets.specs.SplitName.{split_name_in}
use Rattle.sets.specs.Plan.{plan_by}

abbrev pub view_of : Object → PodParts
view_of o = pod_with (split_name_in o.key.name) o

-- the pods of the set's namespace, as a plan sees them
unfoldable pub views_of : SetParts → List Object → List PodParts
views_of set pods = map view_of (listed_pods set pods)

-- the revisions that the set controls, the newest last
unfoldable pub owned_of : SetParts → List Object → List Object
owned_of set revisions = in_order revision_cmp (owned_among set revisions)

-- what is to be done, or the first refusal
unfoldable pub plan_of_lists : SetParts → ℕ → List Object → List Object → List Object → Result (List Action) PlanError
plan_of_lists set digits revisions pods claims =
    plan_by set (listed_claim set claims) (views_of set pods) (plan_of set (is_held (listed set revisions)) digits (owned_of set revisions))

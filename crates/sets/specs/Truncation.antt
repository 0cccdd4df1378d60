-- What is held of a list of actions, as more are added to it, and the steps that they come from.
use Rattle.std.specs.Prelude.{◌≡◌, Bool, true, List, ◌++◌, length, nat_le, take}
use Rattle.std.specs.List.{All}
use Rattle.set_views.specs.Set.{SetParts}
use Rattle.pod_steps.specs.declared.step.Step.{Step}
use Rattle.pod_steps.specs.declared.step.Step.TheVariants.{MakeClaims, KeepClaims, ReleaseClaims, CreatePod, DeletePod, Wait}
use Rattle.objects.specs.Names.{most_label}
use Rattle.sets.specs.declared.action.Action.{Action}
use Rattle.sets.specs.Actions.{name_at}
use Rattle.sets.specs.Plan.{most_actions}

-- what is held after `more` is added to `old`
abbrev pub Adds : List Action → List Action → List Action → Type 0
Adds old new more = new ≡ take most_actions (old ++ more)

-- the name of a pod that the step creates is not too long
abbrev pub is_nameable : SetParts → Step → Bool
is_nameable set (MakeClaims i) = true
is_nameable set (KeepClaims i) = true
is_nameable set (ReleaseClaims i uid) = true
is_nameable set (CreatePod i revision) = nat_le (length (name_at set i)) most_label
is_nameable set (DeletePod i uid) = true
is_nameable set (Wait i cause) = true

abbrev pub AreNameable : SetParts → List Step → Type 0
AreNameable set steps = All (λ s. is_nameable set s ≡ true) steps

-- A prefix of a plan on a set's pods, which may be far longer.
use Rattle.std.specs.Prelude.{◌≡◌, ℕ, zero, suc, List, [], ◌∷◌, ◌++◌, Bool, true, false, filter, if◌then◌else◌}
use Rattle.pod_steps.specs.declared.step.Step.{Step}
use Rattle.pod_steps.specs.declared.step.Step.TheVariants.{MakeClaims, KeepClaims, ReleaseClaims, CreatePod, DeletePod, Wait}

-- a step that is an action of the plan; one on claims becomes any number of actions
abbrev pub is_of_pod : Step → Bool
is_of_pod (MakeClaims i) = false
is_of_pod (KeepClaims i) = false
is_of_pod (ReleaseClaims i uid) = false
is_of_pod (CreatePod i revision) = true
is_of_pod (DeletePod i uid) = true
is_of_pod (Wait i cause) = true

abbrev pub pod_steps : List Step → List Step
pod_steps steps = filter is_of_pod steps

-- the prefix up to the n-th step that is an action of the plan
unfoldable pub up_to : ℕ → List Step → List Step
up_to zero steps = []
up_to (suc n) [] = []
up_to (suc n) (step ∷ steps) = step ∷ up_to (if is_of_pod step then n else suc n) steps

-- a plan has at most 1,024 actions, and this prefix has as many, or is the full list
unfoldable pub truncated : List Step → List Step
truncated steps = up_to 1024 steps

-- what is held after `more` is added to `old`
abbrev pub Adds : List Step → List Step → List Step → Type 0
Adds old new more = new ≡ truncated (old ++ more)

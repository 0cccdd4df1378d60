-- The threads of a race.
use Rattle.std.specs.Prelude.{◌≡◌, ◌<◌, ℕ, ◌+◌}
use Rattle.race_log.specs.declared.part.Part.{Part}
use Rattle.race_log.specs.declared.spec.RaceSpec.{RaceSpec}
use Rattle.racing.specs.declared.jobs.Job.{Job}
use Rattle.racing.specs.declared.jobs.Job.TheVariants.{Controller, Kubelet, Operator}
use Rattle.racing.specs.Parts.{IsPartOf}

abbrev pub number_of : {C : Type 0} → Job C → ℕ
number_of (Controller me caller) = me
number_of (Kubelet me caller) = me
number_of (Operator me caller) = me

-- the number says what its caller does
abbrev pub IsJob : {C : Type 0} → RaceSpec → Job C → Type 0
IsJob spec (Controller me caller) = me < spec.controllers
IsJob spec (Kubelet me caller) = me ≡ spec.controllers
IsJob spec (Operator me caller) = me ≡ spec.controllers + 2

-- the part of the caller of that number
pub record IsPartAt (shards capacity : ℕ) (spec : RaceSpec) (number : ℕ) (part : Part) : Type 0 where
  pub caller : part.caller ≡ number
  pub asked : IsPartOf shards capacity spec part

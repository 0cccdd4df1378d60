-- What the threads of a race promise.
use Rattle.std.specs.Prelude.{◌≡◌, ℕ}
use Rattle.std.specs.declared.thread.PromisedHandle.{PromisedHandle}
use Rattle.racing.specs.declared.threads.PartOf.{PartOf}
use Rattle.race_log.specs.declared.spec.RaceSpec.{RaceSpec}

abbrev pub promised_number : {T S : Type 0} → PromisedHandle T (PartOf S) → ℕ
promised_number child = child.promise.number

abbrev pub Promises : {T S : Type 0} → RaceSpec → PromisedHandle T (PartOf S) → Type 0
Promises spec child = child.promise.spec ≡ spec

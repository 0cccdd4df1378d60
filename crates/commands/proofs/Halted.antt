-- Which fault of the reader a halt is, and that the failure of a device leaves the mark of the heap as it was.
use Rattle.std.proofs.Common.{◌≡◌, ◌<◌, ◌⊎◌, ℕ, true, false, Result, Ok, Err, inl, inr, refl, sym, subst, arith}
use Rattle.std.specs.Prelude.{IfErr}
use Rattle.std.specs.Result.{IsErrAnd}
use Rattle.plain.specs.Faults.{CountsInput}
use Rattle.plain.specs.declared.devices.input.InputFault.{InputFault}
use Rattle.plain.specs.declared.devices.input.InputFault.TheVariants as input
use Rattle.commands.specs.declared.halt.Halt.{Halt}
use Rattle.commands.specs.declared.halt.Halt.TheVariants.{Read, Memory, Refused, RefusedAt, Foreign}
use Rattle.commands.specs.Halts.{CountsReads, halt_of, is_read}
use Rattle.commands.proofs.Serving.{false-true}

-- a halt that came of a fault of the input counts what the fault counts
pub counts-input : {A : Type 0} (result : Result A Halt) (fault : InputFault) (old new : ℕ) → IsErrAnd result (λ halt. halt ≡ halt_of fault)
    → CountsInput {A = ℕ} (Err fault) old new → CountsReads result old new
counts-input {A} (Ok x) fault old new is counts = absurd is
counts-input {A} (Err halt) input.Read old new is counts =
    let P : Halt → Type 0 = λ h. CountsReads {A = A} (Err h) old new in subst P (sym is) counts
counts-input {A} (Err halt) input.Memory old new is counts =
    let P : Halt → Type 0 = λ h. CountsReads {A = A} (Err h) old new in subst P (sym is) counts

-- no halt of what was read counts a failure
pub counts-none : {A : Type 0} (result : Result A Halt) (old new : ℕ) → IfErr result (λ halt. is_read halt ≡ false) → new ≡ old → CountsReads result old new
counts-none (Ok x) old new unread same = same
counts-none (Err Read) old new unread same = absurd (false-true (sym unread))
counts-none (Err Memory) old new unread same = same
counts-none (Err (Refused name)) old new unread same = same
counts-none (Err (RefusedAt name line fault)) old new unread same = same
counts-none (Err (Foreign pod)) old new unread same = same

-- a halt for the reader's failure counts one
pub read-fails : (halt : Halt) (old new : ℕ) → CountsReads {A = ℕ} (Err halt) old new → is_read halt ≡ true → old < new
read-fails Read old new counts is = counts
read-fails Memory old new counts is = absurd (false-true is)
read-fails (Refused name) old new counts is = absurd (false-true is)
read-fails (RefusedAt name line fault) old new counts is = absurd (false-true is)
read-fails (Foreign pod) old new counts is = absurd (false-true is)

same-less : (old new : ℕ) → new ≡ old → old < new → ⊥
same-less old new same less = omega arith

-- if nothing was written, only the reader can have failed
pub spared-unwritten : (Same : Type 0) (halt : Halt) (old new wrote : ℕ) → CountsReads {A = ℕ} (Err halt) old new → (is_read halt ≡ true → Same)
    → (old < new) ⊎ (wrote < wrote) → Same
spared-unwritten Same halt old new wrote counts same (inr write) = absurd (same-less wrote wrote refl write)
spared-unwritten Same Read old new wrote counts same (inl read) = same refl
spared-unwritten Same Memory old new wrote counts same (inl read) = absurd (same-less old new counts read)
spared-unwritten Same (Refused name) old new wrote counts same (inl read) = absurd (same-less old new counts read)
spared-unwritten Same (RefusedAt name line fault) old new wrote counts same (inl read) = absurd (same-less old new counts read)
spared-unwritten Same (Foreign pod) old new wrote counts same (inl read) = absurd (same-less old new counts read)

-- if the reader did not fail, the writer did
pub spared-read : (Same Wrote : Type 0) (old new : ℕ) → new ≡ old → (Wrote → Same) → (old < new) ⊎ Wrote → Same
spared-read Same Wrote old new counts same (inl read) = absurd (same-less old new counts read)
spared-read Same Wrote old new counts same (inr write) = same write

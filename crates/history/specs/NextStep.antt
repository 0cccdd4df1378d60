-- The step that brings a caller closer to its reply while no other caller makes a step.
use Rattle.std.specs.Prelude.{ℕ, zero, suc, Bool, nat_le, Option, Some, None, is_some, if◌then◌else◌}
use Rattle.interleavings.specs.declared.event.Event.{Event}
use Rattle.interleavings.specs.declared.event.Event.TheVariants as event
use Rattle.interleavings.specs.World.{Size, World}
use Rattle.history.specs.declared.caller_phase.FirstStep.TheVariants.{Write, Read, ReadAt, Compaction}
use Rattle.history.specs.declared.caller_phase.CallerPhase.{CallerPhase}
use Rattle.history.specs.declared.caller_phase.CallerPhase.TheVariants.{Idle, Called, Holding, Drawn, Waiting, Reading, Gone, Left}
use Rattle.history.specs.CallerPhase.{caller_phase_of}

-- A caller that waits can get its reply once the frontier has reached what it saw. Until then the frontier is raised,
-- if it can be.
abbrev pub step_in_wait : (frontier : ℕ) → (can_rise : Bool) → (caller saw : ℕ) → Option Event
step_in_wait frontier can_rise c saw = if nat_le saw frontier then Some (event.Reply c) else if can_rise then Some event.Raise else None

abbrev pub goes_on : (is_held : ℕ → Bool) → (frontier : ℕ) → (can_rise : Bool) → (caller : ℕ) → CallerPhase → Option Event
goes_on is_held frontier can_rise c Idle = None
goes_on is_held frontier can_rise c (Called (Write shard)) = if is_held shard then None else Some (event.Check c)
goes_on is_held frontier can_rise c (Called Read) = Some (event.Read c)
goes_on is_held frontier can_rise c (Called ReadAt) = Some (event.ReadAt c)
goes_on is_held frontier can_rise c (Called Compaction) = Some (event.Compact c)
goes_on is_held frontier can_rise c (Holding shard) = Some (event.Reserve c)
goes_on is_held frontier can_rise c (Drawn number shard) = Some (event.Publish c)
goes_on is_held frontier can_rise c (Waiting saw) = step_in_wait frontier can_rise c saw
goes_on is_held frontier can_rise c (Reading number shard zero) = Some (event.Reply c)
goes_on is_held frontier can_rise c (Reading number shard (suc left)) = Some (event.Part c)
goes_on is_held frontier can_rise c Gone = None
goes_on is_held frontier can_rise c (Left number shard) = None

-- the number after the frontier is filled
abbrev pub can_rise : World → Bool
can_rise w = is_some (w.log w.frontier)

abbrev pub next_step : Size → World → (caller : ℕ) → Option Event
next_step z w c = goes_on (λ s. is_some (w.holder s)) w.frontier (can_rise w) c (caller_phase_of z.shards (w.phase c))

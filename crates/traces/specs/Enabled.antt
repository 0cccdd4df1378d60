-- Which events are enabled, by the world before them. A Call is enabled if its caller is idle, and a Check if its
-- caller has called a write and the shard of its key is not held. A Reserve is enabled for a write that holds its
-- shard, and a Publish for one that has drawn a number, even if its caller is gone. A Raise is enabled if the next
-- number after the frontier is filled. A Read, a ReadAt and a Compact are enabled if the caller has called a get or a
-- list of now, a list at a version, and a compaction. A Part is enabled while a shard has not answered. A Reply is
-- enabled if the frontier has reached what its caller saw, or if all shards have answered its read. A Crash is enabled
-- for a caller that is not gone.
use Rattle.std.specs.Prelude.{ℕ, zero, suc, Bool, true, false, not, nat_le, Option, is_some}
use Rattle.interleavings.specs.declared.event.Event.{Event}
use Rattle.interleavings.specs.declared.event.Event.TheVariants as event
use Rattle.interleavings.specs.World.{Size, World}
use Rattle.history.specs.NextStep.{can_rise}
use Rattle.history.specs.declared.caller_phase.FirstStep.TheVariants.{Write, Read, ReadAt, Compaction}
use Rattle.history.specs.declared.caller_phase.CallerPhase.{CallerPhase}
use Rattle.history.specs.declared.caller_phase.CallerPhase.TheVariants.{Idle, Called, Holding, Drawn, Waiting, Reading, Gone, Left}
use Rattle.pictures.specs.Picture.{caller_phase_by}
use Rattle.traces.specs.declared.run_state.RunState.{RunState}

-- ---- what a line shows of the world before an event, and after it
-- whether the shard in which a write is to be checked is held
abbrev pub is_held : World → CallerPhase → Bool
is_held w (Called (Write shard)) = is_some (w.holder shard)
is_held w _ = false

-- the state of the event's caller, and whether its shard is held; the frontier, and whether the next number is filled
abbrev pub run_state_of : Size → World → (caller : Option ℕ) → RunState
run_state_of z w caller =
    record { standing = caller_phase_by z w caller; is_held = is_held w (caller_phase_by z w caller); can_rise = can_rise w; frontier = w.frontier }

-- ---- by the caller's state
abbrev pub is_idle : CallerPhase → Bool
is_idle Idle = true
is_idle _ = false

abbrev pub may_check : CallerPhase → (is_held : Bool) → Bool
may_check (Called (Write shard)) held = not held
may_check _ held = false

abbrev pub asks_read : CallerPhase → Bool
asks_read (Called Read) = true
asks_read _ = false

abbrev pub asks_read_at : CallerPhase → Bool
asks_read_at (Called ReadAt) = true
asks_read_at _ = false

abbrev pub asks_compaction : CallerPhase → Bool
asks_compaction (Called Compaction) = true
asks_compaction _ = false

abbrev pub is_holding : CallerPhase → Bool
is_holding (Holding shard) = true
is_holding _ = false

abbrev pub has_drawn : CallerPhase → Bool
has_drawn (Drawn number shard) = true
has_drawn (Left number shard) = true
has_drawn _ = false

abbrev pub has_parts_left : CallerPhase → Bool
has_parts_left (Reading number shard (suc left)) = true
has_parts_left _ = false

abbrev pub may_reply : CallerPhase → (frontier : ℕ) → Bool
may_reply (Waiting saw) frontier = nat_le saw frontier
may_reply (Reading number shard zero) frontier = true
may_reply _ frontier = false

abbrev pub is_gone : CallerPhase → Bool
is_gone Gone = true
is_gone (Left number shard) = true
is_gone _ = false

-- ---- whether an event is enabled, by the run_state before it
abbrev pub is_enabled : Event → (before : RunState) → Bool
is_enabled (event.Call c r) before = is_idle before.standing
is_enabled (event.Check c) before = may_check before.standing before.is_held
is_enabled (event.Reserve c) before = is_holding before.standing
is_enabled (event.Publish c) before = has_drawn before.standing
is_enabled event.Raise before = before.can_rise
is_enabled (event.Read c) before = asks_read before.standing
is_enabled (event.ReadAt c) before = asks_read_at before.standing
is_enabled (event.Compact c) before = asks_compaction before.standing
is_enabled (event.Part c) before = has_parts_left before.standing
is_enabled (event.Reply c) before = may_reply before.standing before.frontier
is_enabled (event.Crash c) before = not (is_gone before.standing)

-- A caller's phase, as far as its next step depends on it.
use Rattle.std.specs.Prelude.{ℕ, suc, length, Option, Some, None}
use Rattle.objects.specs.ShardOf.{shard_of}
use Rattle.plain_store.specs.Route.{Route, compacts, gets, lists, lists_at, route, writes}
use Rattle.interleavings.specs.World as world
use Rattle.history.specs.declared.phase.Phase.{Phase as CodePhase}
use Rattle.history.specs.declared.phase.Phase.TheVariants as code
use Rattle.history.specs.declared.caller_phase.FirstStep.{FirstStep}
use Rattle.history.specs.declared.caller_phase.FirstStep.TheVariants.{Write, Read, ReadAt, Compaction}
use Rattle.history.specs.declared.caller_phase.CallerPhase.{CallerPhase}
use Rattle.history.specs.declared.caller_phase.CallerPhase.TheVariants.{Idle, Called, Holding, Drawn, Waiting, Reading, Gone, Left}

-- the step that a request begins with, if there are so many shards
abbrev pub first_step : (shards : ℕ) → Route → FirstStep
first_step n (writes k) = Write (shard_of k n)
first_step n (gets k) = Read
first_step n (lists kind namespace) = Read
first_step n (lists_at kind namespace number) = ReadAt
first_step n (compacts to) = Compaction

-- the shard that a read reads, if it reads one alone
abbrev pub one_shard : (shards : ℕ) → Route → Option ℕ
one_shard n (gets k) = Some (shard_of k n)
one_shard n (writes k) = None
one_shard n (lists kind namespace) = None
one_shard n (lists_at kind namespace number) = None
one_shard n (compacts to) = None

-- a number is its index plus one
abbrev pub caller_phase_of : (shards : ℕ) → world.Phase → CallerPhase
caller_phase_of n world.Idle = Idle
caller_phase_of n (world.Called place r) = Called (first_step n (route r))
caller_phase_of n (world.Holding t) = Holding (shard_of t.key n)
caller_phase_of n (world.Drawn d) = Drawn (suc d.index) (shard_of d.writing.key n)
caller_phase_of n (world.Waiting saw place reply) = Waiting saw
caller_phase_of n (world.Reading number place r parts found) = Reading number (one_shard n (route r)) (length parts)
caller_phase_of n (world.Gone None) = Gone
caller_phase_of n (world.Gone (Some d)) = Left (suc d.index) (shard_of d.writing.key n)

-- ---- for private clauses: the same of a phase as the program holds it
abbrev pub caller_phase_in : (shards : ℕ) → CodePhase → CallerPhase
caller_phase_in n code.Idle = Idle
caller_phase_in n (code.Called place r) = Called (first_step n (route r))
caller_phase_in n (code.Holding t) = Holding (shard_of t.key n)
caller_phase_in n (code.Drawn d) = Drawn (suc d.index) (shard_of d.writing.key n)
caller_phase_in n (code.Waiting saw place reply) = Waiting saw
caller_phase_in n (code.Reading number place r left) = Reading number (one_shard n (route r)) left
caller_phase_in n code.Gone = Gone
caller_phase_in n (code.Left d) = Left (suc d.index) (shard_of d.writing.key n)
caller_phase_in n code.Dropped = Gone

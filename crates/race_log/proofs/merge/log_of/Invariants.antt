use Rattle.race_log.specs.Judged.{noted_of}
use Rattle.race_log.specs.Waiting.{Midway}
use Rattle.race_log.proofs.merge.log_of.Given as goal

abbrev pub invariant-loop-caller : goal.invariant-loop-caller
invariant-loop-caller l = Midway l.turns l.fn.queues l.caller-index (noted_of l.log) l.left

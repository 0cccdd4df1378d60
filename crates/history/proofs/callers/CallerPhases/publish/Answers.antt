use Rattle.std.proofs.Common.{rules}
use Rattle.interleavings.specs.Step.{accepted_reply}
use Rattle.history.proofs.callers.CallerPhases.publish.Goals as goal

pub returns-in-Drawn-clause-entered : goal.returns-in-Drawn-clause-entered
unfolding accepted_reply
returns-in-Drawn-clause-entered c = (search rules, λ tracked. c.enter-in-Drawn.ensures.entered.1 (c.in-Drawn.ensures.entered.1 tracked))

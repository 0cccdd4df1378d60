use Rattle.std.proofs.Common.{true, cond, ap, ◌∙◌}
use Rattle.history.specs.Begun.{is_open}
use Rattle.history.proofs.OpenRead.{at_read}
use Rattle.history.proofs.open_reads.OpenReads.begin.Goals as goal

pub returns-clause-begun : goal.returns-clause-begun
returns-clause-begun c = λ n d. c.in_ok-insert.ensures.updates.0 (n, d) ∙ ap (λ b. cond b true (is_open c.args.self.now n d)) (at_read c.args.number c.args.caller n d)

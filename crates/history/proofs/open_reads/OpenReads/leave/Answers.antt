use Rattle.std.proofs.Common.{false, cond, ap, sym, ◌∙◌, ◌&&◌, nat_eq}
use Rattle.history.specs.Begun.{is_open}
use Rattle.history.specs.Replayed.{reads_at}
use Rattle.history.proofs.OpenRead.{at_read}
use Rattle.history.proofs.open_reads.OpenReads.leave.Goals as goal

pub returns-in-Reading : goal.returns-in-Reading
returns-in-Reading c = λ n d.
    c.remove.ensures.updates.0 (n, d) ∙ ap (λ b. cond b false (is_open c.args.self.now n d)) (at_read c.in-Reading.number c.args.caller n d)
    ∙ ap (λ p. cond (nat_eq c.args.caller d && reads_at n p) false (is_open c.args.self.now n d)) (sym c.in-Reading.is)

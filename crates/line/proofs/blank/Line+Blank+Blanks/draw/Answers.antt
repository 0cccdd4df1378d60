use Rattle.std.proofs.Common.{ap, sym, ◌∙◌}
use Rattle.line.specs.declared.blank.Blank.{Blank}
use Rattle.line.specs.Seat.{Seat}
use Rattle.line.proofs.Logs.{some_of}
use Rattle.line.proofs.blank.Line+Blank+Blanks.draw.Goals as goal

pub draw_blank-requires-clause-shard : goal.draw_blank-requires-clause-shard
draw_blank-requires-clause-shard c =
    let s = some_of c.seat.inside.place.me.0.shard c.seat.invariant.4 in
    (s.0, sym (ap (λ (x : Seat Blank). x.view.shard) c.seat.view_is) ∙ s.1)

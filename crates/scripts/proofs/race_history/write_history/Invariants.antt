use Rattle.std.proofs.Common.{◌≡◌, ◌<◌, ◌++◌, drop, length}
use Rattle.plan_lines.specs.Output.{PutsBut}
use Rattle.scripts.specs.RaceHistory.{history_text}
use Rattle.scripts.proofs.race_history.write_history.Given as goal

-- all was written except the lines that wait, those of the items that are left, and the order
abbrev pub invariant-loop-item : goal.invariant-loop-item
invariant-loop-item g l = record {
  put :
      PutsBut (g.W.Sink.written l.fn.writer) (history_text l.spec l.trace.items.items l.order)
      (l.lines.items ++ history_text l.spec (drop l.item-index l.trace.items.items) l.order) (g.W.Sink.written l.writer);
  writes : g.W.Sink.failures l.writer ≡ g.W.Sink.failures l.fn.writer;
  few : length l.lines.items < 65536;
}

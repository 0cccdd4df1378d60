use Rattle.std.proofs.Common.{◌≡◌, ◌<◌, ◌++◌, drop, length}
use Rattle.plan_lines.specs.Formats.{actions_text}
use Rattle.plan_lines.specs.Output.{PutsBut}
use Rattle.plan_lines.proofs.output.write_actions.Given as goal

-- all was written except the lines that wait, those of the actions that are left, and the last ones
abbrev pub invariant-loop-action : goal.invariant-loop-action
invariant-loop-action g l = record {
  put :
      PutsBut (g.W.Sink.written l.fn.writer) (actions_text l.format l.actions ++ l.last)
      (l.lines.items ++ (actions_text l.format (drop l.action-index l.actions) ++ l.last)) (g.W.Sink.written l.writer);
  writes : g.W.Sink.failures l.writer ≡ g.W.Sink.failures l.fn.writer;
  few : length l.lines.items < 65536;
}

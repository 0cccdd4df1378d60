use Rattle.std.proofs.Common.{◌≡◌, drop}
use Rattle.race_lines.specs.Looks.{sent_by}
use Rattle.race_lines.proofs.looks.add_sent.Given as goal

abbrev pub invariant-loop-ask : goal.invariant-loop-ask
invariant-loop-ask l = sent_by l.names.keys (drop l.ask-index l.asks) ≡ sent_by l.fn.names.keys l.asks

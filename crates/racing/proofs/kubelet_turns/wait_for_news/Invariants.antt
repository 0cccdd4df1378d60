use Rattle.racing.specs.Answered.{Learns}
use Rattle.racing.proofs.kubelet_turns.wait_for_news.Given as goal

-- it only looks
abbrev pub invariant-loop : goal.invariant-loop
invariant-loop g l = Learns (g.S.SharedStore.known l.fn.caller) (g.S.SharedStore.known l.caller)

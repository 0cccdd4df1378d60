use Rattle.std.proofs.Common.{◌≡◌, ◌++◌, drop}
use Rattle.rounds.specs.Kubelet.{turn_requests_of}
use Rattle.rounds.proofs.kubelet.turn_requests.Given as goal

-- the requests so far and those still to come make the whole
abbrev pub invariant-loop-pod : goal.invariant-loop-pod
invariant-loop-pod l = l.asked.items ++ turn_requests_of (drop l.pod-index l.pods) ≡ turn_requests_of l.pods

use Rattle.std.proofs.Common.{◌≡◌, ◌++◌, drop}
use Rattle.rounds.specs.Kubelet.{kubelet_requests_of}
use Rattle.rounds.proofs.kubelet.kubelet_requests.Given as goal

-- the requests so far and those still to come make the whole
abbrev pub invariant-loop-pod : goal.invariant-loop-pod
invariant-loop-pod l = l.asked.items ++ kubelet_requests_of (drop l.pod-index l.pods) ≡ kubelet_requests_of l.pods

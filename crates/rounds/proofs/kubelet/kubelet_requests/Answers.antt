use Rattle.rounds.specs.Kubelet.{kubelet_requests_for}
use Rattle.rounds.proofs.KubeletWalks.{asked-next}
use Rattle.rounds.proofs.kubelet.kubelet_requests.Goals as goal

pub loop-pod-preserved : goal.loop-pod-preserved
loop-pod-preserved c =
    asked-next kubelet_requests_for c.args.pods.now c.loop-pod.pod-index c.pod-item.result _ _ _ c.loop-pod-test.true c.pod-item.is c.loop-pod.invariant c.in_ok-put_asked.ensures

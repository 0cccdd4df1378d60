use Rattle.std.proofs.Common.{ap, ◌∙◌, codes}
use Rattle.serde_json.specs.Data.{put, string}
use Rattle.manifests.proofs.pod.pod_labels.Goals as goal

pub returns : goal.returns
returns c =
    c.in_ok-all.ensures ∙ (ap (λ s. put (codes "apps.kubernetes.io/pod-index") (string s) c.in_ok-versioned.versioned) c.format-index.ensures.text
    ∙ ap (put (codes "apps.kubernetes.io/pod-index") (string _)) (c.in_ok-versioned.ensures ∙ ap (put (codes "controller-revision-hash") (string c.args.revision.now)) c.in_ok-named.ensures))

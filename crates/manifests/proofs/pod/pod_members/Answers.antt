use Rattle.std.proofs.Common.{ap, ◌∙◌, codes}
use Rattle.serde_json.specs.Data.{object, put, member, no_members}
use Rattle.manifests.proofs.pod.pod_members.Goals as goal

pub returns : goal.returns
returns c =
    c.in_ok-members.ensures ∙ (ap (put (codes "spec") (object c.in_ok-spec.spec)) c.in_ok-none.ensures ∙ ap (λ s. member (codes "spec") (object s) no_members) c.in_ok-spec.ensures)

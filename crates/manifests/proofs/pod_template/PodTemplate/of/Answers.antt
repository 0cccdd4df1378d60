use Rattle.std.proofs.Common.{ap, ◌∙◌, codes}
use Rattle.objects.specs.Building.{put_some}
use Rattle.set_views.specs.Set.{set_parts}
use Rattle.revisions.specs.Built.{owned_metadata}
use Rattle.manifests.specs.Template.{labels_in, part, part_in}
use Rattle.manifests.proofs.pod_template.PodTemplate.of.Goals as goal

pub invariant_of-result : goal.invariant_of-result
invariant_of-result c =
    let given = c.in_ok-given.ensures ∙ ap (part (codes "metadata")) c.in_ok-members.ensures in
    record {
      labelled = c.in_ok-labels.ensures ∙ ap labels_in given;
      owned = c.in_ok-metadata.ensures
          ∙ ap (λ m. put_some (codes "annotations") (part_in (codes "annotations") m) (owned_metadata (set_parts c.args.set.now))) given;
      specified = c.in_ok-spec.ensures ∙ ap (part (codes "spec")) c.in_ok-members.ensures;
      stored = c.in_ok-others.ensures;
    }

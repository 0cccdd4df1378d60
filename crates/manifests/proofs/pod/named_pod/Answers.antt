use Rattle.std.proofs.Common.{ap, ◌∙◌, codes}
use Rattle.objects.specs.declared.kind.Kind.TheVariants.{Pod}
use Rattle.objects.specs.Key.{key_parts}
use Rattle.objects.specs.MetadataShape.{metadata_fits}
use Rattle.objects.specs.New.{new_object}
use Rattle.objects.specs.Object.{has_held}
use Rattle.set_views.specs.Set.{set_parts}
use Rattle.manifests.specs.BuiltPod.{pod_metadata}
use Rattle.manifests.specs.Template.{part, template_of}
use Rattle.manifests.proofs.PodMetadata.{metadata_unheld, pod_metadata_fits}
use Rattle.manifests.proofs.pod.named_pod.Goals as goal

pub of-requires-clause-unheld : goal.of-requires-clause-unheld
of-requires-clause-unheld c =
    let template = c.args.template.now in
    ap has_held c.in_ok-metadata.ensures
    ∙ metadata_unheld (set_parts template.set.now) c.args.name.now template.revision.now.key.name c.args.ordinal (part (codes "metadata") (template_of template.revision.now))

pub of-requires-clause-fits : goal.of-requires-clause-fits
of-requires-clause-fits c =
    let template = c.args.template.now in
    ap metadata_fits c.in_ok-metadata.ensures
    ∙ pod_metadata_fits (set_parts template.set.now) c.args.name.now template.revision.now.key.name c.args.ordinal (part (codes "metadata") (template_of template.revision.now))

pub returns : goal.returns
returns c =
    let template = c.args.template.now in
    let set = set_parts template.set.now in
    let key = key_parts Pod set.object.key.namespace c.args.name.now in
    let metadata = pod_metadata set c.args.name.now template.revision.now.key.name c.args.ordinal (part (codes "metadata") (template_of template.revision.now)) in
    c.in_ok-pod.ensures ∙ (ap (λ k. new_object k c.in_ok-metadata.metadata c.in_ok-members.members) c.in_ok-key.ensures
    ∙ (ap (λ m. new_object key m c.in_ok-members.members) c.in_ok-metadata.ensures ∙ ap (new_object key metadata) c.in_ok-members.ensures))

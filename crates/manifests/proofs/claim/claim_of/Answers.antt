use Rattle.std.proofs.Common.{ap, ◌∙◌, arith, codes}
use Rattle.objects.specs.declared.kind.Kind.TheVariants.{PersistentVolumeClaim}
use Rattle.objects.specs.Key.{is_key, key_parts}
use Rattle.objects.specs.MetadataShape.{metadata_fits}
use Rattle.objects.specs.New.{new_object}
use Rattle.objects.specs.Object.{has_held}
use Rattle.objects.specs.PodNames.{claim_name}
use Rattle.set_views.specs.Set.{set_parts}
use Rattle.manifests.specs.BuiltClaim.{built_claim, claim_metadata}
use Rattle.manifests.specs.Template.{part}
use Rattle.manifests.proofs.ClaimKeys.{claim_key_fits}
use Rattle.manifests.proofs.ClaimMetadata.{claim_metadata_fits, claim_metadata_unheld}
use Rattle.manifests.proofs.claim.claim_of.Goals as goal

pub of-requires-clause-unheld : goal.of-requires-clause-unheld
of-requires-clause-unheld c = ap has_held c.in_ok-metadata.ensures ∙ claim_metadata_unheld (set_parts c.args.set.now) c.args.owners c.in_ok-given.given

pub of-requires-clause-fits : goal.of-requires-clause-fits
of-requires-clause-fits c = ap metadata_fits c.in_ok-metadata.ensures ∙ claim_metadata_fits (set_parts c.args.set.now) c.args.owners c.in_ok-given.given c.requires.owners

pub claim_key-requires : goal.claim_key-requires
claim_key-requires c =
    let key = c.args.set.now.object.key in
    ap (λ n. is_key (key_parts PersistentVolumeClaim key.namespace n)) (c.as_str.ensures.value ∙ c.in_ok-full.ensures.name)
    ∙ claim_key_fits key c.args.name.now c.args.ordinal c.claim_name_of.ensures.valid c.requires.label (omega (arith, c.ranges.ordinal.fits)) c.requires.short

pub returns : goal.returns
unfolding built_claim
returns c =
    let set = set_parts c.args.set.now in
    let key = key_parts PersistentVolumeClaim set.object.key.namespace (claim_name c.args.name.now set.object.key.name c.args.ordinal) in
    let given = ap (claim_metadata set c.args.owners) c.in_ok-given.ensures in
    let keyed = c.in_ok-key.ensures ∙ ap (key_parts PersistentVolumeClaim set.object.key.namespace) (c.as_str.ensures.value ∙ c.in_ok-full.ensures.name) in
    c.in_ok-claim.ensures ∙ (ap (λ k. new_object k c.in_ok-metadata.metadata c.in_ok-members.members) keyed
    ∙ (ap (λ m. new_object key m c.in_ok-members.members) (c.in_ok-metadata.ensures ∙ given)
    ∙ ap (new_object key (claim_metadata set c.args.owners (part (codes "metadata") c.args.template.now))) c.in_ok-members.ensures))

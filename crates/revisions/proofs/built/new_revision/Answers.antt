use Rattle.std.proofs.Common.{ap, ◌∙◌}
use Rattle.objects.specs.MetadataShape.{metadata_fits}
use Rattle.set_views.specs.Set.{set_parts}
use Rattle.revisions.proofs.NewNames.{owned_fits}
use Rattle.revisions.proofs.built.new_revision.Goals as goal

pub of-requires-clause-fits : goal.of-requires-clause-fits
of-requires-clause-fits c = ap metadata_fits c.in_ok-metadata.ensures ∙ owned_fits (set_parts c.args.set.now)

use Rattle.std.proofs.Common.{ap, ◌∙◌}
use Rattle.compact_objects.specs.Merging.{is_set}
use Rattle.compact_objects.specs.declared.merge.MapKind.TheVariants.{Metadata}
use Rattle.compact_objects.proofs.Merging.{below_at, step_written}
use Rattle.compact_objects.proofs.PlainTexts.{held_is_set}
use Rattle.compact_objects.proofs.merge.write_step.Goals as goal

pub write_below-requires : goal.write_below-requires
write_below-requires c = ap (is_set Metadata) c.key.ensures ∙ held_is_set c.args.held

pub returns : goal.returns
returns c ms ascending is are =
    step_written _ _ _ _ _ _ _ _ _ (below_at _ _ _ _ _ _ _ _ c.key.ensures (c.in_ok-rest.ensures ms ascending is are)) c.in_ok-write_held.ensures

use Rattle.std.proofs.Common.{None, Ok, ap₂, sym, ◌∙◌}
use Rattle.objects.specs.Reading.{draft_meta}
use Rattle.objects.specs.declared.fault.ReadError.TheVariants.{BadMeta}
use Rattle.compact_objects.proofs.Metas.{meta_is, none_written}
use Rattle.compact_objects.proofs.meta.meta_of.Goals as goal

pub returns : goal.returns
returns c ms is canonical =
    meta_is ms _ _ c.in_ok-generation.generation (none_written _ c.member.result (c.member.ensures ms is) (sym c.is_some.ensures ∙ c.if-is_some.false)) (c.in_ok-uid.ensures ms BadMeta is) (c.in_ok-version.ensures ms BadMeta is) (c.in_ok-generation.ensures ms is canonical)
    ∙ ap₂ (λ u v. Ok (draft_meta u v c.in_ok-generation.generation None)) (sym c.unless_empty.ensures) (sym c.unless_empty-2.ensures)

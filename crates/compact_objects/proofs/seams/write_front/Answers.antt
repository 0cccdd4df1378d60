use Rattle.std.proofs.Common.{[], refl}
use Rattle.compact_objects.proofs.Seaming.{front_written}
use Rattle.compact_objects.proofs.seams.write_front.Goals as goal

pub returns : goal.returns
returns c os ms is ascending metadata_is metadata_ascending =
    let fields = c.fields-fields.ensures os is.0 is.1 in
    front_written c.args.key.now c.args.meta.now os ms _ _ _ _ c.args.out.now.items _ _ _ c.requires (c.in_ok-others.ensures os ascending fields.0 fields.1) (c.in_ok-versioned.ensures ms metadata_ascending metadata_is)
    (λ back x e. c.begin_map.ensures [] back x e refl)

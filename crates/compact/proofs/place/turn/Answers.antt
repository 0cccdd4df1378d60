use Rattle.std.proofs.Common.{refl, ◌∙◌}
use Rattle.compact.proofs.Moved.{turned}
use Rattle.compact.proofs.place.turn.Goals as goal

pub returns : goal.returns
returns c front back new rest is here middle_is end_is =
    turned front back new rest c.args.text.now _ _ _ c.copy_from_slice.new.self c.args.start c.args.end c.args.middle is here middle_is end_is refl refl c.in_ok-fill.ensures (c.copy_from_slice.ensures.after ∙ c.as_slice.ensures.value)

use Rattle.std.proofs.Common.{take, refl, sym, ap, ◌∙◌, arith}
use Rattle.packed.proofs.Written.{all_behind, stretch_made}
use Rattle.packed.proofs.difference.write_stretch.Goals as goal

pub returns-clause-written : goal.returns-clause-written
returns-clause-written c =
    stretch_made c.args.base.now c.args.text.now c.args.out.now.items c.write_run.new.out.items c.args.place _ c.common_length-same.result _ c.requires.written c.in_ok-write_run.ensures
    (ap (take c.common_length-same.result) (sym (all_behind c.args.base.now c.args.place.base)) ∙ c.common_length-same.ensures.alike ∙ ap (take c.common_length-same.result) (all_behind c.args.text.now c.args.place.text)) refl (omega arith) (omega arith) (omega arith) refl

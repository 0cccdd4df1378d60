use Rattle.std.proofs.Common.{◌++◌, ap, refl, ◌∙◌}
use Rattle.std.proofs.lemmas.Result.{on_ok_weaker}
use Rattle.plain.proofs.Written.{three}
use Rattle.plain.proofs.lines.reply_line.object_line.Goals as goal

pub returns : goal.returns
returns c =
    on_ok_weaker c.put-3.result (λ last.
    three c.args.out.now.items _ _ _ _ _ _ _ c.in_ok-put.ensures (c.in_ok-put-2.ensures ∙ ap (λ t. c.put.new.out.items ++ t) c.as_str.ensures) last refl) c.put-3.ensures

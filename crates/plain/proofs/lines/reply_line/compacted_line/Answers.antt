use Rattle.std.proofs.Common.{◌<◌, ◌^◌, ◌++◌, ap, ◌∙◌, arith}
use Rattle.std.proofs.lemmas.Result.{on_ok_weaker}
use Rattle.plain.proofs.Written.{four, revision_text}
use Rattle.plain.proofs.lines.reply_line.compacted_line.Goals as goal

pub returns : goal.returns
returns c =
    let small : c.args.revision < 2 ^ 64 = omega (arith, c.ranges.revision) in
    on_ok_weaker c.put_last.result (λ last.
    four c.args.out.now.items _ _ _ _ _ _ _ _ _ c.in_ok-put_code.ensures c.in_ok-put.ensures
    (c.in_ok-put-2.ensures ∙ ap (λ t. c.put.new.out.items ++ t) c.format.ensures.text) last
    (revision_text c.args.revision small)) c.put_last.ensures

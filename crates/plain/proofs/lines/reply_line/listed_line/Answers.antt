use Rattle.std.proofs.Common.{◌<◌, ◌^◌, ◌++◌, ap, map, ◌∙◌, arith}
use Rattle.std.proofs.lemmas.Result.{on_ok_weaker}
use Rattle.plain.proofs.Written.{six, list_text}
use Rattle.plain.proofs.lines.reply_line.listed_line.Goals as goal

pub returns : goal.returns
returns c =
    let small : c.args.revision < 2 ^ 64 = omega (arith, c.ranges.revision) in
    on_ok_weaker c.put_last.result (λ last.
    six c.args.out.now.items _ _ _ _ _ _ _ _ _ _ _ _ _ c.in_ok-put_code.ensures c.in_ok-put.ensures c.in_ok-put_items.ensures c.in_ok-put-2.ensures
    (c.in_ok-put-3.ensures ∙ ap (λ t. c.put-2.new.out.items ++ t) c.format.ensures.text) last
    (list_text (map (λ o. o.now) c.args.objects.now) c.args.revision small)) c.put_last.ensures

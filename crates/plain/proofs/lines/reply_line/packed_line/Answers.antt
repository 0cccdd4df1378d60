use Rattle.std.proofs.Common.{refl, codes}
use Rattle.std.proofs.lemmas.Result.{on_ok_weaker}
use Rattle.json.specs.Print.{escape_byte}
use Rattle.plain.proofs.Written.{done_front, object_pieces, three}
use Rattle.plain.proofs.lines.reply_line.packed_line.Goals as goal

pub returns : goal.returns
unfolding escape_byte
returns c =
    on_ok_weaker c.put-2.result (λ last.
    three c.args.out.now.items _ _ _ _ _ _ _ c.in_ok-put.ensures c.in_ok-write_text.ensures last (object_pieces _ _ 200 c.args.object.now (codes "Found") refl done_front refl)) c.put-2.ensures

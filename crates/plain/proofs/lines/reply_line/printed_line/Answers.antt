use Rattle.std.proofs.Common.{codes, ◌++◌, ap, refl, ◌∙◌}
use Rattle.std.proofs.lemmas.Result.{on_ok_weaker}
use Rattle.json.specs.Print.{escape_byte}
use Rattle.plain.proofs.Written.{done_front, made_front, object_pieces}
use Rattle.plain.proofs.lines.reply_line.printed_line.Goals as goal

pub returns-in-Created : goal.returns-in-Created
unfolding escape_byte
returns-in-Created c =
    rw c.in-Created.is (on_ok_weaker c.object_line.result (λ last. last ∙ ap (λ t. c.args.out.now.items ++ t) (object_pieces _ _ 201 _ (codes "Created") refl made_front refl)) c.object_line.ensures)

pub returns-in-Updated : goal.returns-in-Updated
unfolding escape_byte
returns-in-Updated c =
    rw c.in-Updated.is (on_ok_weaker c.object_line-in-Updated.result (λ last. last ∙ ap (λ t. c.args.out.now.items ++ t) (object_pieces _ _ 200 _ (codes "Updated") refl done_front refl)) c.object_line-in-Updated.ensures)

pub returns-in-Unchanged : goal.returns-in-Unchanged
unfolding escape_byte
returns-in-Unchanged c =
    rw c.in-Unchanged.is (on_ok_weaker c.object_line-in-Unchanged.result (λ last. last ∙ ap (λ t. c.args.out.now.items ++ t) (object_pieces _ _ 200 _ (codes "Unchanged") refl done_front refl)) c.object_line-in-Unchanged.ensures)

pub returns-in-Marked : goal.returns-in-Marked
unfolding escape_byte
returns-in-Marked c =
    rw c.in-Marked.is (on_ok_weaker c.object_line-in-Marked.result (λ last. last ∙ ap (λ t. c.args.out.now.items ++ t) (object_pieces _ _ 200 _ (codes "Marked") refl done_front refl)) c.object_line-in-Marked.ensures)

pub returns-in-Removed : goal.returns-in-Removed
unfolding escape_byte
returns-in-Removed c =
    rw c.in-Removed.is (on_ok_weaker c.object_line-in-Removed.result (λ last. last ∙ ap (λ t. c.args.out.now.items ++ t) (object_pieces _ _ 200 _ (codes "Removed") refl done_front refl)) c.object_line-in-Removed.ensures)

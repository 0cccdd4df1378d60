use Rattle.std.proofs.Common.{sym, ap, subst, inl, inr}
use Rattle.requests.specs.Verdict.{is_write}
use Rattle.history.specs.Replayed.{Answers, IsNumbered}
use Rattle.history.proofs.Pieces.{if_ok_by}
use Rattle.history.proofs.Due.{compaction_found, list_found, numbered_list, writes_unread}
use Rattle.history.proofs.machine.Machine.answer.Goals as goal

pub returns-in-List : goal.returns-in-List
returns-in-List c =
    let m = c.args.self.now in
    let n = c.args.number in
    if_ok_by _ _ c.answer_list.result (λ reply is. subst (λ r. Answers n r reply m) (sym c.in-List.is) (list_found m n c.in-List.kind _ c.in-List.exact reply (numbered_list n c.in-List.kind _ c.in-List.exact (subst (IsNumbered n) c.in-List.is c.requires.numbered)) c.requires.kept is)) c.answer_list.ensures

pub returns-in-Compact : goal.returns-in-Compact
returns-in-Compact c =
    let m = c.args.self.now in
    let n = c.args.number in
    subst (λ r. Answers n r c.answer_compaction.result m) (sym c.in-Compact.is) (compaction_found m n c.in-Compact.to _ c.answer_compaction.ensures)

pub unreachable-requires : goal.unreachable-requires
unreachable-requires c =
    let f = writes_unread c.args.request.now c.requires.read in
    elim c.in-Create.is [
      | inl x ↦ f (ap is_write x.1)
      | inr y ↦ elim y [
        | inl x ↦ f (ap is_write x.1)
        | inr v ↦ elim v [
          | inl x ↦ f (ap is_write x.1)
          | inr x ↦ f (ap is_write x.4)
        ]
      ]
    ]

use Rattle.plain.proofs.LineSplits.{text-pending, store-pending}
use Rattle.plain.proofs.lines.splitter.answer_end.Goals as goal

pub returns-clause-text : goal.returns-clause-text
returns-clause-text c =
    text-pending c.args.plain.now c.args.splitter.pending.items c.args.end.now c.in_ok-pending.pending.items c.as_slice.result.now c.args.splitter.replies.items c.in_ok-replies-2.replies.items
    c.in_ok-pending.ensures c.as_slice.ensures.value c.in_ok-replies-2.ensures.text

pub returns-clause-store : goal.returns-clause-store
returns-clause-store c =
    store-pending c.args.plain.now _ c.args.splitter.pending.items c.args.end.now c.in_ok-pending.pending.items c.as_slice.result.now c.in_ok-pending.ensures
    c.as_slice.ensures.value c.in_ok-replies-2.ensures.store

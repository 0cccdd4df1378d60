use Rattle.std.proofs.Common.{[], ◌∷◌}
use Rattle.serde_json.specs.Written.{members_text}
use Rattle.compact_objects.proofs.LabelTexts.{label_passed, labels_begin, labels_end, no_labels, no_quote}
use Rattle.compact_objects.proofs.Texts.{begins, other_bytes, same_bytes}
use Rattle.std.proofs.Common.{true}
use Rattle.compact_objects.proofs.meta.are_labels.Goals as goal

pub returns-then-eq : goal.returns-then-eq
returns-then-eq c d is holds = no_labels d c.args.text.now is (same_bytes _ _ _ _ c.eq.ensures c.if-eq.true c.as_slice.ensures)

pub labels-init : goal.labels-init
labels-init c d is =
    labels_begin d c.args.text.now c.in-Some.left.now is (begins c.args.text.now (123 ∷ []) _ c.in-Some.ensures.cases.0 c.in-Some.ensures.cases.1) (other_bytes _ _ _ _ c.eq.ensures c.if-eq.false c.as_slice.ensures)

pub returns-then-byte-eq125 : goal.returns-then-byte-eq125
returns-then-byte-eq125 c d is holds =
    let h = c.labels.invariant d is in
    labels_end d _ _ _ _ h (c.in-Some-text_member_rest.ensures.rest h.k h.e (members_text true h.others) h.is (no_quote h.others)) c.in-Some-split_first.ensures.cases.0 c.if-byte-eq125.true

pub labels-preserved : goal.labels-preserved
labels-preserved c d is =
    let h = c.labels.invariant d is in
    label_passed d _ _ _ _ h (c.in-Some-text_member_rest.ensures.rest h.k h.e (members_text true h.others) h.is (no_quote h.others)) c.in-Some-split_first.ensures.cases.0 c.if-byte-ne44.false

use Rattle.std.proofs.Common.{◌≡◌, sym, ap, ◌∙◌}
use Rattle.requests.specs.Admission.{create_denied}
use Rattle.requests.specs.Change.{creates, stamp}
use Rattle.requests.specs.Verdict.{born}
use Rattle.compact_objects.specs.Drafts.{lent}
use Rattle.compact_objects.specs.declared.draft.CompactDraft.{CompactDraft}
use Rattle.compact_objects.proofs.Judged.{create_written, told_by}
use Rattle.compact_objects.proofs.creation.judge_create.Goals as goal

pub returns-in-Some-2 : goal.returns-in-Some-2
returns-in-Some-2 c d current told is =
    let admitted = ap (λ (x : CompactDraft). create_denied (lent x.version) c.args.is_there) (sym c.draft.view_is) ∙ sym c.create_denied.ensures ∙ c.in_default.is in
    create_written c.args.draft.now d current c.args.is_there c.args.number c.in-Some-2.text told is admitted
    (told_by (λ text. text ≡ stamp (creates (born d.object)) c.args.number) c.in_ok-text.field-0 c.in-Some-2.text c.in-Some-2.is (c.in_ok-text.ensures d told))

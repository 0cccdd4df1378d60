use Rattle.std.proofs.Common.{IfSome, sym, ap, ◌∙◌, subst}
use Rattle.objects.specs.Seams.{IsSpliced, status_text}
use Rattle.requests.specs.Judgments.{judged_at}
use Rattle.requests.specs.declared.change_kind.ChangeKind.TheVariants.{Update as Updating}
use Rattle.requests.specs.declared.verdict.Judgment.TheVariants as judged
use Rattle.objects.proofs.SplicedTexts.{indexed_parts}
use Rattle.compact_objects.proofs.KnownDrafts.{status_told}
use Rattle.compact_objects.proofs.Statuses.{same_status, spliced_told, status_unchanged, written_status}
use Rattle.compact_objects.proofs.status.status_unless_same.Goals as goal

pub ends_so-requires : goal.ends_so-requires
ends_so-requires c = indexed_parts c.args.current.now c.indexed-old.result.now c.indexed-old.ensures

pub spliced-requires : goal.spliced-requires
spliced-requires c = indexed_parts c.args.current.now c.indexed-old.result.now c.indexed-old.ensures

pub returns-in-Some-true : goal.returns-in-Some-true
returns-in-Some-true c d told =
    let o = c.args.current.now in
    let s = c.indexed-old.result.now in
    let indexed = c.indexed-old.ensures in
    let some = c.in-Some-true.ensures.0 in
    let end = c.deref.ensures.value ∙ c.in_ok-end.ensures _ told.draft.status_is ∙ ap status_text (sym (status_told c.args.draft.now d told)) in
    ap judged.Same c.in_ok-clone-in-Some-true.ensures.cases ∙ sym (ap (judged_at c.args.number) (status_unchanged o d (sym (c.in-Some-true.ensures.1 (indexed_parts o s indexed some) ∙ same_status c.args.draft.now d o s indexed some told c.deref.result.now end) ∙ c.in-Some-true.field-0-test)))

pub of_indexed-requires : goal.of_indexed-requires
of_indexed-requires c =
    let d = c.requires.0 in
    let told = c.requires.1 in
    let o = c.args.current.now in
    let s = c.indexed-old.result.now in
    let end = c.deref-in-Some-false.ensures.value ∙ c.in_ok-end.ensures _ told.draft.status_is ∙ ap status_text (sym (status_told c.args.draft.now d told)) in
    let spliced = subst (λ f. IfSome f (IsSpliced s c.deref-in-Some-false.result.now c.args.number)) c.in-Some.is c.in_ok-new-in-Some-false.ensures in
    (_, spliced_told c.args.draft.now d o s c.in-Some.new c.args.number told c.deref-in-Some-false.result.now c.indexed-old.ensures c.ranges.number.fits end spliced)

pub returns-in-Some : goal.returns-in-Some
returns-in-Some c d told =
    let o = c.args.current.now in
    let s = c.indexed-old.result.now in
    let indexed = c.indexed-old.ensures in
    let some = c.in-Some-false.ensures.0 in
    let status = c.in_ok-end.ensures _ told.draft.status_is ∙ ap status_text (sym (status_told c.args.draft.now d told)) in
    let apart = sym (c.in-Some-false.ensures.1 (indexed_parts o s indexed some) ∙ same_status c.args.draft.now d o s indexed some told c.deref.result.now (c.deref.ensures.value ∙ status)) ∙ c.in-Some-false.field-0-test in
    let spliced = subst (λ f. IfSome f (IsSpliced s c.deref-in-Some-false.result.now c.args.number)) c.in-Some.is c.in_ok-new-in-Some-false.ensures in
    let made = spliced_told c.args.draft.now d o s c.in-Some.new c.args.number told c.deref-in-Some-false.result.now indexed c.ranges.number.fits (c.deref-in-Some-false.ensures.value ∙ status) spliced in
    let written = written_status o d c.args.number _ apart (c.in_ok-of_indexed-in-Some.ensures _ made) in
    ap (judged.Write Updating) written.1 ∙ sym (ap (judged_at c.args.number) written.0)

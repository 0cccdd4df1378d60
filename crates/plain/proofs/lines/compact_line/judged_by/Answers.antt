use Rattle.std.proofs.Common.{Some, refl, sym, ap, ◌∙◌}
use Rattle.std.specs.FinMap as finite
use Rattle.std.specs.Option.{option_copied}
use Rattle.requests.specs.declared.request.Request.TheVariants as request
use Rattle.compact_objects.proofs.KnownDrafts.{key_told}
use Rattle.plain.specs.declared.lines.verb.Verb.TheVariants as verb
use Rattle.plain.proofs.CompactWrites.{judged_over}
use Rattle.plain.proofs.lines.compact_line.judged_by.Goals as goal

pub returns-in-Create-clause-judged : goal.returns-in-Create-clause-judged
returns-in-Create-clause-judged c d told =
    let current = finite.get c.args.plain.now.objects c.args.draft.now.key in
    judged_over c.args.verb verb.Create d request.Create c.args.plain.now c.args.draft.now.key c.judge_create.result c.next_number-number.result current
    refl refl (ap Some (key_told c.args.draft.now d told)) c.in-Create.is c.next_number-number.ensures.value refl
    (c.judge_create.ensures d current told (sym c.is_there-is_there.ensures.there))

pub returns-in_ok-current-in-Update-clause-judged : goal.returns-in_ok-current-in-Update-clause-judged
returns-in_ok-current-in-Update-clause-judged c d told =
    judged_over c.args.verb verb.Update d request.Update c.args.plain.now c.args.draft.now.key c.judge_update-judged.result c.next_number-number.result (option_copied c.as_ref.result)
    refl refl (ap Some (key_told c.args.draft.now d told)) c.in-Update.is c.next_number-number.ensures.value (c.as_ref.ensures.value ∙ c.in_ok-current-in-Update.ensures.there)
    (c.judge_update-judged.ensures d told)

pub returns-in_ok-current-in-Status-clause-judged : goal.returns-in_ok-current-in-Status-clause-judged
returns-in_ok-current-in-Status-clause-judged c d told =
    judged_over c.args.verb verb.Status d request.UpdateStatus c.args.plain.now c.args.draft.now.key c.judge_status-judged.result c.next_number-number.result (option_copied c.as_ref-in-Status.result)
    refl refl (ap Some (key_told c.args.draft.now d told)) c.in-Status.is c.next_number-number.ensures.value (c.as_ref-in-Status.ensures.value ∙ c.in_ok-current-in-Status.ensures.there)
    (c.judge_status-judged.ensures d told)

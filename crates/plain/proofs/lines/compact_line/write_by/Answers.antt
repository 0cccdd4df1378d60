use Rattle.std.proofs.Common.{sym, ap, ◌∙◌, subst}
use Rattle.plain_store.specs.Judged.{IsJudged}
use Rattle.plain_store.specs.Store.{Store, step}
use Rattle.plain.proofs.CompactWrites.{IsJudgedBy, found_by}
use Rattle.plain.proofs.lines.compact_line.write_by.Goals as goal

pub carry_out-requires : goal.carry_out-requires
carry_out-requires c =
    let key = c.args.draft.now.key in
    let is = found_by (IsJudgedBy c.args.verb c.requires.0 c.args.plain.now key) c.in_ok-judged.field-0 c.in-Some.judged c.in-Some.is (c.in_ok-judged.ensures.judged c.requires.0 c.requires.1) in
    (is.0, subst (λ (s : Store). IsJudged s is.0 key c.in-Some.judged) (sym c.in_ok-judged.ensures.same) is.2)

pub returns-in_ok-carry_out-in-Some-clause-step : goal.returns-in_ok-carry_out-in-Some-clause-step
returns-in_ok-carry_out-in-Some-clause-step c d told =
    let key = c.args.draft.now.key in
    let is = found_by (IsJudgedBy c.args.verb d c.args.plain.now key) c.in_ok-judged.field-0 c.in-Some.judged c.in-Some.is (c.in_ok-judged.ensures.judged d told) in (
      is.0,
      is.1,
      c.in_ok-carry_out-in-Some.ensures.step is.0 (subst (λ (s : Store). IsJudged s is.0 key c.in-Some.judged) (sym c.in_ok-judged.ensures.same) is.2)
          ∙ ap (λ (s : Store). step s is.0) c.in_ok-judged.ensures.same,
    )

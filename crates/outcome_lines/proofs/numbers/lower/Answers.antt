use Rattle.std.proofs.Common.{◌∙◌, ap, refl, sym}
use Rattle.std.proofs.lemmas.Result.{on_ok_weaker}
use Rattle.outcome_lines.specs.ObjectWords.{is_lower, number_in}
use Rattle.outcome_lines.proofs.ByText.{kept, lowered}
use Rattle.outcome_lines.proofs.numbers.lower.Goals as goal

pub returns-then-is_new : goal.returns-then-is_new
returns-then-is_new c =
    let is = ap (is_lower c.args.number) (sym c.number_of-noted.ensures) ∙ sym c.is_lower-is_new.ensures ∙ c.if-is_new.true in
    on_ok_weaker c.set_number.result
    (λ sets. lowered (number_in c.args.numbers.now.entries) (number_in c.set_number.new.numbers.entries) c.args.text.now c.args.number is sets) c.set_number.ensures

pub returns : goal.returns
returns c =
    let is = ap (is_lower c.args.number) (sym c.number_of-noted.ensures) ∙ sym c.is_lower-is_new.ensures ∙ c.if-is_new.false in
    kept (number_in c.args.numbers.now.entries) (number_in c.args.numbers.now.entries) c.args.text.now c.args.number is (λ t. refl)

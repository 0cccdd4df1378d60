use Rattle.std.proofs.Common.{◌+◌, ap}
use Rattle.std.proofs.lemmas.Result.{on_ok_weaker}
use Rattle.outcome_lines.specs.ObjectWords.{number_in}
use Rattle.outcome_lines.proofs.ByText.{counted_once}
use Rattle.outcome_lines.proofs.numbers.count.Goals as goal

pub returns : goal.returns
returns c =
    on_ok_weaker c.set_number.result
    (λ sets. counted_once (number_in c.args.numbers.now.entries) (number_in c.set_number.new.numbers.entries) c.args.text.now _ (ap (λ n. n + 1) c.times_of-times.ensures) sets)
    c.set_number.ensures

use Rattle.outcome_lines.proofs.ByText.{number_set}
use Rattle.outcome_lines.proofs.numbers.set_number.Goals as goal

pub returns-in-Ok : goal.returns-in-Ok
returns-in-Ok c =
    number_set c.args.numbers.now.entries c.insert.new.self.entries c.in_ok-key.key c.args.text.now c.args.number c.in-Ok.ensures.entries (c.in_ok-key.ensures.items_if_clones_equal (λ x y e. e))

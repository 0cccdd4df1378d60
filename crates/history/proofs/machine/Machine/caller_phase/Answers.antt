use Rattle.std.proofs.Common.{◌≡◌, Some, arith, ap, sym, ◌∙◌}
use Rattle.history.specs.Replayed.{drawn_in, or_idle, phase_at}
use Rattle.history.proofs.Published.{drawn_small}
use Rattle.history.proofs.machine.Machine.caller_phase.Goals as goal

pub overflow_add-result : goal.overflow_add-result
overflow_add-result c =
    let is : drawn_in (phase_at c.args.self.now.callers c.args.caller) ≡ Some c.in-Some-Drawn.draw = ap (λ o. drawn_in (or_idle o)) (sym c.in-Some-Drawn.ensures) ∙ ap drawn_in c.in-Some-Drawn.field-0-is in
    let small = (drawn_small c.args.self.now c.args.caller c.in-Some-Drawn.draw c.requires is).0 in
    omega (arith, small)

pub overflow_add-result-in-Some-Left : goal.overflow_add-result-in-Some-Left
overflow_add-result-in-Some-Left c =
    let is : drawn_in (phase_at c.args.self.now.callers c.args.caller) ≡ Some c.in-Some-Left.draw = ap (λ o. drawn_in (or_idle o)) (sym c.in-Some-Left.ensures) ∙ ap drawn_in c.in-Some-Left.field-0-is in
    let small = (drawn_small c.args.self.now c.args.caller c.in-Some-Left.draw c.requires is).0 in
    omega (arith, small)

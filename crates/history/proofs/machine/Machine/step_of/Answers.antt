use Rattle.std.proofs.Common.{refl, sym, ◌∙◌}
use Rattle.history.proofs.Admitted.{admits, dismisses, does_after, same_stays, unnamed}
use Rattle.history.proofs.Pieces.{on_err}
use Rattle.history.proofs.machine.Machine.step_of.Goals as goal

pub returns-in_err-admit-clause-memory : goal.returns-in_err-admit-clause-memory
returns-in_err-admit-clause-memory c = on_err _ _ (same_stays c.args.self.now _ c.in_err-admit.ensures.memory refl)

pub admit-requires : goal.admit-requires
admit-requires c = unnamed _ c.phase.result _ c.phase.ensures (sym c.is_some.ensures ∙ c.if-is_some.false)

pub returns-in-Ok-clause-done : goal.returns-in-Ok-clause-done
returns-in-Ok-clause-done c =
    let m = c.args.self.now in
    let none = unnamed _ c.phase.result _ c.phase.ensures (sym c.is_some.ensures ∙ c.if-is_some.false) in
    does_after c.args.event.now m _ c.take-2.new.self (admits m _ c.args.caller none c.in_ok-admit.ensures.admitted refl) c.in-Ok.ensures.done

pub returns-in-Err-clause-memory : goal.returns-in-Err-clause-memory
returns-in-Err-clause-memory c =
    let m = c.args.self.now in
    let none = unnamed _ c.phase.result _ c.phase.ensures (sym c.is_some.ensures ∙ c.if-is_some.false) in
    dismisses m _ c.take-2.new.self _ c.args.caller none c.in_ok-admit.ensures.admitted refl c.in-Err.ensures.memory c.dismiss.ensures.dismissed c.dismiss.ensures.tracked refl

use Rattle.std.proofs.Common.{◌++◌, refl, sym, ap, ◌∙◌}
use Rattle.history.proofs.Pieces.{on_err, stays_by, stays_same}
use Rattle.history.proofs.WritesDone.{raise_done, raise_nothing}
use Rattle.history.proofs.machine.Machine.raise.Goals as goal

pub returns-in_default-clause-done : goal.returns-in_default-clause-done
returns-in_default-clause-done c = raise_nothing c.args.self.now (sym c.in_default.ensures)

pub returns-in_err-passed-clause-memory : goal.returns-in_err-passed-clause-memory
returns-in_err-passed-clause-memory c = on_err _ _ (stays_same c.args.self.now)

pub returns-in_err-append-clause-memory : goal.returns-in_err-append-clause-memory
returns-in_err-append-clause-memory c = on_err _ _ (stays_by c.args.self.now _ refl c.in_err-append.ensures.items refl (λ n. refl) refl)

pub returns-clause-done : goal.returns-clause-done
returns-clause-done c =
    let m = c.args.self.now in
    raise_done m _ c.in-Some.place (sym c.in-Some.ensures) (c.in_ok-append.ensures.items ∙ ap (λ l. m.order.items ++ l) c.in_ok-passed.ensures) c.clear.ensures refl refl

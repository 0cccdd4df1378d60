use Rattle.std.proofs.Common.{refl, ap, ◌∙◌, ◌++◌, ◌∷◌, [], arith}
use Rattle.history.specs.declared.machine.Machine.{Machine}
use Rattle.history.proofs.Admitted.{same_stays, stays_twice}
use Rattle.history.proofs.Pieces.{begins_by, on_err, stays_by}
use Rattle.history.proofs.machine.Machine.begin.Goals as goal

pub returns-in_err-reserve-clause-memory : goal.returns-in_err-reserve-clause-memory
returns-in_err-reserve-clause-memory c = on_err _ _ (stays_by c.args.self.now _ refl c.reserve.ensures.items refl (λ n. refl) refl)

pub returns-in_err-begin-clause-memory : goal.returns-in_err-begin-clause-memory
returns-in_err-begin-clause-memory c =
    let m = c.args.self.now in
    let n : Machine = record m { order = c.reserve.new.self } in
    on_err _ _ (stays_twice m n _ (stays_by m n refl c.reserve.ensures.items refl (λ n. refl) refl) (same_stays n _ c.in_err-begin.ensures.memory refl))

pub returns-in_err-push-clause-memory : goal.returns-in_err-push-clause-memory
returns-in_err-push-clause-memory c = let room = c.in_ok-reserve.ensures.ok in let full = c.in_err-push.ensures.full in absurd (omega arith)

pub returns-clause-begun : goal.returns-clause-begun
returns-clause-begun c = begins_by c.args.self.now _ c.args.caller c.args.place c.args.number c.args.left c.requires.called c.requires.kept (c.in_ok-push.ensures.items ∙ ap (λ l. l ++ c.args.place ∷ []) c.reserve.ensures.items) c.in_ok-begin.ensures.begun refl

use Rattle.std.proofs.Common.{◌++◌, ◌∷◌, [], refl, sym, ap, ◌∙◌, subst}
use Rattle.history.specs.declared.phase.Phase.TheVariants as code
use Rattle.interleavings.specs.declared.trace.Item.TheVariants as item
use Rattle.history.specs.Replayed.{Enters}
use Rattle.history.proofs.Pieces.{on_err, stays_by, stays_same}
use Rattle.history.proofs.WritesDone.{call_done, call_nothing}
use Rattle.history.proofs.machine.Machine.call.Goals as goal

pub returns-then-not-is_idle-clause-done : goal.returns-then-not-is_idle-clause-done
returns-then-not-is_idle-clause-done c = call_nothing c.args.self.now c.args.caller c.args.request.now (sym c.is_idle.ensures ∙ c.if-not-is_idle.true)

pub returns-in_err-clone-clause-memory : goal.returns-in_err-clone-clause-memory
returns-in_err-clone-clause-memory c = on_err _ _ (stays_same c.args.self.now)

pub returns-in_err-clone-2-clause-memory : goal.returns-in_err-clone-2-clause-memory
returns-in_err-clone-2-clause-memory c = on_err _ _ (stays_same c.args.self.now)

pub returns-in_err-push-clause-memory : goal.returns-in_err-push-clause-memory
returns-in_err-push-clause-memory c = on_err _ _ (stays_by c.args.self.now _ c.in_err-push.ensures.items refl refl (λ n. refl) refl)

pub returns-clause-done : goal.returns-clause-done
returns-clause-done c =
    let m = c.args.self.now in
    let caller = c.args.caller in
    call_done m caller c.args.request.now _ c.enter.new.self (sym c.is_idle.ensures ∙ c.if-not-is_idle.false)
    (subst (λ r. Enters m.callers c.enter.new.self caller (code.Called m.now_at r)) c.in_ok-clone.ensures.cases c.enter.ensures.entered)
    (c.in_ok-push.ensures.items ∙ ap (λ r. m.items.items ++ item.Call m.now_at caller r ∷ []) c.in_ok-clone-2.ensures.cases) refl

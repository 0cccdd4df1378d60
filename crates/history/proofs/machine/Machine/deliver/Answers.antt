use Rattle.std.proofs.Common.{◌++◌, ◌∷◌, [], refl, ap, ◌∙◌}
use Rattle.interleavings.specs.declared.trace.Item.TheVariants as item
use Rattle.history.proofs.Pieces.{on_err, stays_by, stays_same, tells_by}
use Rattle.history.proofs.machine.Machine.deliver.Goals as goal

pub returns-in_err-clone-clause-memory : goal.returns-in_err-clone-clause-memory
returns-in_err-clone-clause-memory c = on_err _ _ (stays_same c.args.self.now)

pub returns-in_err-push-clause-memory : goal.returns-in_err-push-clause-memory
returns-in_err-push-clause-memory c = on_err _ _ (stays_by c.args.self.now _ c.in_err-push.ensures.items refl refl (λ n. refl) refl)

pub returns-clause-delivered : goal.returns-clause-delivered
returns-clause-delivered c =
    let m = c.args.self.now in
    tells_by m _ c.args.caller c.args.reply.now c.requires (c.in_ok-push.ensures.items ∙ ap (λ r. m.items.items ++ item.Reply m.now_at c.args.caller r ∷ []) c.in_ok-clone.ensures.cases) c.enter.ensures.entered refl

use Rattle.std.proofs.Common.{refl}
use Rattle.history.proofs.Pieces.{on_err, on_err_by, on_ok_by, settled_later, settled_now, stays_by}
use Rattle.history.proofs.machine.Machine.order_or_park.Goals as goal

pub returns-in_err-push-clause-memory : goal.returns-in_err-push-clause-memory
returns-in_err-push-clause-memory c = on_err _ _ (stays_by c.args.self.now _ refl c.in_err-push.ensures.items refl (λ n. refl) refl)

pub returns-then-saw-self-clause-settled : goal.returns-then-saw-self-clause-settled
returns-then-saw-self-clause-settled c = settled_now c.args.self.now _ c.args.saw c.args.caller c.args.place c.if-saw-self.true c.in_ok-push.ensures.items refl

pub returns-clause-settled : goal.returns-clause-settled
returns-clause-settled c = on_ok_by _ _ c.park.result (λ lots. settled_later c.args.self.now _ c.args.saw c.args.caller c.args.place c.if-saw-self.false c.requires lots refl) c.park.ensures.parked

pub returns-clause-memory : goal.returns-clause-memory
returns-clause-memory c = on_err_by _ _ c.park.result (λ lots. stays_by c.args.self.now _ refl refl refl lots refl) c.park.ensures.memory

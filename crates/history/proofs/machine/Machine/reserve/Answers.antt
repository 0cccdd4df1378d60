use Rattle.std.proofs.Common.{◌<◌, refl, sym, ap, arith, subst, length}
use Rattle.requests.specs.declared.reply.Reply.TheVariants.{Refused}
use Rattle.requests.specs.declared.reply.Reason.TheVariants.{StoreFull}
use Rattle.history.specs.Replayed.{Waits}
use Rattle.history.proofs.Pieces.{map_none, map_some, on_err, seat_of, stays_by}
use Rattle.history.proofs.WritesDone.{reserve_drawn, reserve_full, reserve_nothing}
use Rattle.history.proofs.machine.Machine.reserve.Goals as goal

pub returns-in_default-clause-done : goal.returns-in_default-clause-done
returns-in_default-clause-done c = reserve_nothing c.args.self.now c.args.caller (map_none _ _ c.in_default.ensures.value)

pub returns-in_err-push-clause-memory : goal.returns-in_err-push-clause-memory
returns-in_err-push-clause-memory c = on_err _ _ (stays_by c.args.self.now _ refl refl c.in_err-push.ensures.items (λ n. refl) refl)

pub returns-then-index-self-clause-done : goal.returns-then-index-self-clause-done
returns-then-index-self-clause-done c =
    let h = map_some _ _ _ c.in-Some.ensures.value in
    reserve_drawn c.args.self.now c.args.caller h.0 h.1.0 _ c.len-index.result (omega (arith, c.args.self.now.places.ok)) c.if-index-self.true c.in_ok-push.ensures.items c.draw.ensures refl

pub index_mut-requires : goal.index_mut-requires
index_mut-requires c =
    let lt = seat_of c.args.self.now c.in-Some.shard c.requires c.in-Some.ensures.below in
    let here : c.in-Some.shard < length c.wait.new.self.holders.items = subst (λ v. c.in-Some.shard < length v.items) (sym c.wait.ensures.holders) lt in
    omega (arith, c.wait.new.self.holders.ok)

pub returns-clause-done : goal.returns-clause-done
returns-clause-done c =
    let m = c.args.self.now in
    let h = map_some _ _ _ c.in-Some.ensures.value in
    let lt = seat_of m c.in-Some.shard c.requires c.in-Some.ensures.below in
    reserve_full m c.args.caller h.0 h.1.0 c.wait.new.self _ c.in-Some.shard (ap (λ p. p.1) h.1.1) (subst (λ v. c.in-Some.shard < length v.items) (sym c.wait.ensures.holders) lt) (let full = c.if-index-self.false in omega (arith, m.places.ok))
    (subst (λ p. Waits c.args.caller m.capacity p (Refused StoreFull) m c.wait.new.self) (ap (λ p. p.0) h.1.1) c.in_ok-wait.ensures.waits) refl refl

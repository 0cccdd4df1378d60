use Rattle.std.proofs.Common.{◌≡◌, ℕ, suc, ◌+◌, subst, arith}
use Rattle.store.specs.Callers.{HeldInTurn}
use Rattle.store.proofs.Going.{stays_self, stays_stays}
use Rattle.store.proofs.Holding.{held_next, held_self}
use Rattle.store.proofs.store.Store.compact_all.Goals as goal

pub loop-shard-init : goal.loop-shard-init
loop-shard-init g c = record { stays = stays_self c.args.caller.now; held = held_self c.args.number c.args.caller.now }

pub loop-shard-preserved : goal.loop-shard-preserved
loop-shard-preserved g c =
    let before = c.loop-shard.invariant in
    let h = c.compact.ensures.held in
    let i : ℕ = c.loop-shard.shard in
    let next : suc i ≡ i + 1 = omega arith in
    record {
      stays = stays_stays c.args.caller.now c.loop-shard.caller c.compact.new.caller before.stays c.compact.ensures.stays;
      held = subst (λ n. HeldInTurn n c.args.number c.args.caller.now c.compact.new.caller) next
          (held_next g.H.Sharding.shards g.N.Naming.capacity c.args.number i h.0 h.1 c.args.caller.now c.loop-shard.caller c.compact.new.caller before.held h.2);
    }

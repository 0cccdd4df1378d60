use Rattle.std.proofs.Common.{refl}
use Rattle.plain_store.specs.Route.{route}
use Rattle.plain_store.specs.Store.{denied}
use Rattle.interleavings.specs.World.{changed, shard}
use Rattle.interleavings.proofs.examples.short_orders.Goals as goal

pub returns-clause-hole : goal.returns-clause-hole
unfolding route denied changed shard
returns-clause-hole c = refl

pub returns-clause-full_store : goal.returns-clause-full_store
unfolding route denied changed shard
returns-clause-full_store c = refl

pub returns-clause-crash_after_reserve : goal.returns-clause-crash_after_reserve
unfolding route denied changed shard
returns-clause-crash_after_reserve c = refl

pub returns-clause-crash_in_holding : goal.returns-clause-crash_in_holding
unfolding route denied changed shard
returns-clause-crash_in_holding c = refl

pub returns-clause-past_list : goal.returns-clause-past_list
unfolding route denied changed shard
returns-clause-past_list c = refl

pub returns-clause-read_below_a_hole : goal.returns-clause-read_below_a_hole
unfolding route denied changed shard
returns-clause-read_below_a_hole c = refl

pub returns-clause-list_beside_a_write : goal.returns-clause-list_beside_a_write
unfolding route denied changed shard
returns-clause-list_beside_a_write c = refl

pub returns-clause-crash_before_reserve : goal.returns-clause-crash_before_reserve
unfolding route denied changed shard
returns-clause-crash_before_reserve c = refl

pub returns-clause-crash_before_publish : goal.returns-clause-crash_before_publish
unfolding route denied changed shard
returns-clause-crash_before_publish c = refl

pub returns-clause-crash_before_raise : goal.returns-clause-crash_before_raise
unfolding route denied changed shard
returns-clause-crash_before_raise c = refl

pub returns-clause-crash_before_reply : goal.returns-clause-crash_before_reply
unfolding route denied changed shard
returns-clause-crash_before_reply c = refl

use Rattle.std.proofs.Common.{refl}
use Rattle.plain_store.specs.Route.{route}
use Rattle.plain_store.specs.Store.{denied, step}
use Rattle.interleavings.specs.Step.{accepted_reply, with_part}
use Rattle.interleavings.specs.World.{changed, shard}
use Rattle.interleavings.proofs.examples.short_runs.Goals as goal

pub returns-clause-hole : goal.returns-clause-hole
unfolding route step denied accepted_reply with_part changed shard
returns-clause-hole c = refl

pub returns-clause-full_store : goal.returns-clause-full_store
unfolding route step denied accepted_reply with_part changed shard
returns-clause-full_store c = refl

pub returns-clause-crash_after_reserve : goal.returns-clause-crash_after_reserve
unfolding route step denied accepted_reply with_part changed shard
returns-clause-crash_after_reserve c = refl

pub returns-clause-crash_in_holding : goal.returns-clause-crash_in_holding
unfolding route step denied accepted_reply with_part changed shard
returns-clause-crash_in_holding c = refl

pub returns-clause-past_list : goal.returns-clause-past_list
unfolding route step denied accepted_reply with_part changed shard
returns-clause-past_list c = refl

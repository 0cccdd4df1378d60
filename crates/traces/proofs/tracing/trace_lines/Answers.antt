use Rattle.std.proofs.Common.{[], ap, arith, length}
use Rattle.history.specs.After.{IsAfter, taken}
use Rattle.interleavings.specs.World.{Size}
use Rattle.traces.proofs.tracing.trace_lines.Goals as goal

pub put_events-requires : goal.put_events-requires
unfolding IsAfter taken
put_events-requires g c =
    let at = c.in_ok-replay.ensures.opened.0.count in
    let fits = c.well_formed in
    omega (arith, at, fits)

pub returns-clause-few : goal.returns-clause-few
unfolding IsAfter
returns-clause-few g c =
    let z : Size = record { capacity = c.args.capacity; shards = c.args.shards } in
    let after = c.in_ok-put_events.ensures.done z [] c.in_ok-replay.ensures.opened in
    let names = ap length after.1.0 in
    let few = after.1.1 in
    omega (arith, names, few)

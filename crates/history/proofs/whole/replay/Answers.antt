use Rattle.std.proofs.Common.{rules, ◌∙◌, ap, arith, length, subst, take}
use Rattle.std.proofs.lemmas.List.{length-take-le, take_all}
use Rattle.history.specs.After.{IsAfter, taken}
use Rattle.history.specs.Named.{callers}
use Rattle.interleavings.specs.World.{Size}
use Rattle.history.proofs.Naming.{callers_next}
use Rattle.history.proofs.whole.replay.Goals as goal

pub step-requires : goal.step-requires
unfolding IsAfter taken
step-requires c =
    let lt = c.loop-event-test.true in
    let fits = c.well_formed in
    let at = c.loop-event.invariant.0.count ∙ length-take-le c.loop-event.event-index c.args.events.now (omega (arith, lt)) in
    omega (arith, at, lt, fits)

pub returns-in_err-step-clause-too_many : goal.returns-in_err-step-clause-too_many
returns-in_err-step-clause-too_many c = λ x.
    let z : Size = record { capacity = c.args.capacity; shards = c.args.shards } in
    let i = c.loop-event.event-index in
    let es = c.args.events.now in
    let many = (c.in_err-step.ensures.too_many z (take i es) c.loop-event.invariant).0 (search (rules, x)) in
    let less = callers_next i es c.event-item.result c.loop-event-test.true c.event-item.is in
    omega (arith, many, less)

pub returns-clause-few : goal.returns-clause-few
unfolding IsAfter
returns-clause-few c =
    let es = c.args.events.now in
    let after = c.loop-event.invariant in
    let names = ap length after.1.0 in
    let all = ap (λ l. callers l) (take_all c.loop-event.event-index es c.loop-event-test.false) in
    let few = after.1.1 in
    omega (arith, names, all, few)

pub returns-clause-run : goal.returns-clause-run
returns-clause-run c =
    let z : Size = record { capacity = c.args.capacity; shards = c.args.shards } in
    c.finish.ensures z c.args.events.now (subst (λ es. IsAfter z es c.loop-event.replay) (take_all c.loop-event.event-index c.args.events.now c.loop-event-test.false) c.loop-event.invariant)

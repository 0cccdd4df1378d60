use Rattle.std.proofs.Common.{rules, List, ◌∙◌, ap, arith, length, subst, sym, take}
use Rattle.std.proofs.lemmas.List.{length-take-le, take_all}
use Rattle.history.specs.After.{IsAfter, taken}
use Rattle.history.specs.Named.{callers}
use Rattle.history.proofs.Naming.{callers_next}
use Rattle.interleavings.specs.declared.event.Event.{Event}
use Rattle.interleavings.specs.World.{Size}
use Rattle.pictures.specs.Asked.{asked_in}
use Rattle.pictures.proofs.Asking.{told_more}
use Rattle.pictures.proofs.Runs.{taken_more}
use Rattle.pictures.proofs.telling.story.Goals as goal

pub put_step-requires : goal.put_step-requires
unfolding IsAfter taken
put_step-requires g c =
    let lt = c.loop-event-test.true in
    let fits = c.well_formed in
    let at = c.loop-event.invariant.reached.0.count ∙ length-take-le c.loop-event.event-index c.args.events.now (omega (arith, lt)) in
    omega (arith, at, lt, fits)

pub returns-in_err-put_step-clause-too_many : goal.returns-in_err-put_step-clause-too_many
returns-in_err-put_step-clause-too_many g c = λ x.
    let z : Size = record { capacity = c.args.capacity; shards = c.args.shards } in
    let i = c.loop-event.event-index in
    let es = c.args.events.now in
    let many = c.in_err-put_step.ensures.too_many z (take i es) c.loop-event.invariant.reached (search (rules, x)) in
    let less = callers_next i es c.event-item.result c.loop-event-test.true c.event-item.is in
    omega (arith, many, less)

pub loop-event-preserved : goal.loop-event-preserved
loop-event-preserved g c =
    let z : Size = record { capacity = c.args.capacity; shards = c.args.shards } in
    let i = c.loop-event.event-index in
    let es = c.args.events.now in
    let e = c.event-item.result in
    let so_far = c.loop-event.invariant in
    record {
      reached = subst (λ (xs : List Event). IsAfter z xs c.put_step.new.replay) (sym (taken_more i es e c.loop-event-test.true c.event-item.is)) (c.in_ok-put_step.ensures.done z (take i es) so_far.reached);
      told =
          told_more (g.R.Roles.role c.args.roles.now) z es i e (asked_in c.loop-event.asked) _ _ _ _ c.loop-event-test.true c.event-item.is
          (c.in_ok-put_step.ensures.told z (take i es) so_far.reached) (c.in_ok-put_step.ensures.asked z (take i es) so_far.reached) so_far.told;
    }

pub returns-clause-few : goal.returns-clause-few
unfolding IsAfter
returns-clause-few g c =
    let es = c.args.events.now in
    let after = c.loop-event.invariant.reached in
    let names = ap length after.1.0 in
    let all = ap (λ l. callers l) (take_all c.loop-event.event-index es c.loop-event-test.false) in
    let few = after.1.1 in
    omega (arith, names, all, few)

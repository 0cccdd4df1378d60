use Rattle.std.proofs.Common.{rules, List, [], ◌++◌, refl, ◌∙◌, ap, ap₂, arith, length, subst, sym, take}
use Rattle.std.proofs.lemmas.List.{length-take-le, take_all}
use Rattle.history.specs.After.{IsAfter, taken}
use Rattle.history.specs.Named.{callers}
use Rattle.history.proofs.Naming.{callers_next}
use Rattle.interleavings.specs.declared.event.Event.{Event}
use Rattle.interleavings.specs.World.{Size, opening}
use Rattle.pictures.specs.Heading.{heading}
use Rattle.pictures.specs.Picture.{lines_of, participants}
use Rattle.pictures.proofs.Runs.{named_next, taken_more, text_next}
use Rattle.pictures.proofs.drawing.picture.Goals as goal

pub put_step-requires : goal.put_step-requires
unfolding IsAfter taken
put_step-requires g c =
    let lt = c.loop-event-test.true in
    let fits = c.well_formed in
    let at = c.loop-event.invariant.after.0.count ∙ length-take-le c.loop-event.event-index c.args.events.now (omega (arith, lt)) in
    omega (arith, at, lt, fits)

pub returns-in_err-put_step-clause-too_many : goal.returns-in_err-put_step-clause-too_many
returns-in_err-put_step-clause-too_many g c = λ x.
    let z : Size = record { capacity = c.args.capacity; shards = c.args.shards } in
    let i = c.loop-event.event-index in
    let es = c.args.events.now in
    let many = c.in_err-put_step.ensures.too_many z (take i es) c.loop-event.invariant.after (search (rules, x)) in
    let less = callers_next i es c.event-item.result c.loop-event-test.true c.event-item.is in
    omega (arith, many, less)

pub loop-event-preserved : goal.loop-event-preserved
loop-event-preserved g c =
    let z : Size = record { capacity = c.args.capacity; shards = c.args.shards } in
    let i = c.loop-event.event-index in
    let es = c.args.events.now in
    let e = c.event-item.result in
    let so_far = c.loop-event.invariant in
    record {
      after = subst (λ (xs : List Event). IsAfter z xs c.put_step.new.replay) (sym (taken_more i es e c.loop-event-test.true c.event-item.is)) (c.in_ok-put_step.ensures.done z (take i es) so_far.after);
      named =
          named_next c.args.shown z i es e _ _ c.loop-event-test.true c.event-item.is so_far.named (c.in_ok-put_step.ensures.named z (take i es) so_far.after);
      lines =
          text_next c.args.shown z i es e [] _ _ c.loop-event-test.true c.event-item.is so_far.lines
          (c.in_ok-put_step.ensures.put z (take i es) so_far.after refl);
    }

pub returns-clause-picture : goal.returns-clause-picture
returns-clause-picture g c =
    let z : Size = record { capacity = c.args.capacity; shards = c.args.shards } in
    let es = c.args.events.now in
    let all = take_all c.loop-event.event-index es c.loop-event-test.false in
    let so_far = c.loop-event.invariant in
    c.in_ok-under_heading.ensures
    ∙ ap₂ (λ names lines. heading c.args.shards (g.R.Roles.role c.args.roles.now) names ++ lines)
    (so_far.named ∙ ap (participants c.args.shown z [] opening) all)
    (c.as_str.ensures.value ∙ so_far.lines ∙ ap (lines_of c.args.shown z 0 opening) all)

pub returns-clause-few : goal.returns-clause-few
unfolding IsAfter
returns-clause-few g c =
    let es = c.args.events.now in
    let after = c.loop-event.invariant.after in
    let names = ap length after.1.0 in
    let all = ap (λ l. callers l) (take_all c.loop-event.event-index es c.loop-event-test.false) in
    let few = after.1.1 in
    omega (arith, names, all, few)

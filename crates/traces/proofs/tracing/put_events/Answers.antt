use Rattle.std.proofs.Common.{◌++◌, List, append-nil, arith, rules, subst, sym, take}
use Rattle.history.specs.After.{IsAfter}
use Rattle.interleavings.specs.declared.event.Event.{Event}
use Rattle.traces.proofs.Runs.{callers_so_far, taken_next, texts_next}
use Rattle.traces.proofs.tracing.put_events.Goals as goal

pub loop-event-init : goal.loop-event-init
loop-event-init g c = record {
  count = omega arith;
  done = λ size before is. subst (λ (xs : List Event). IsAfter size xs c.args.replay.now) (sym (append-nil before)) is;
  put = λ size before is. sym (append-nil _);
}

pub loop-event-preserved : goal.loop-event-preserved
loop-event-preserved g c =
    let i = c.loop-event.event-index in
    let es = c.args.events.now in
    let e = c.event-item.result in
    let so_far = c.loop-event.invariant in
    record {
      count = omega (arith, c.in_ok-put_step.ensures.count, so_far.count);
      done = λ size before is.
          subst (λ (xs : List Event). IsAfter size xs c.put_step.new.replay) (taken_next before i es e c.loop-event-test.true c.event-item.is)
          (c.in_ok-put_step.ensures.done size (before ++ take i es) (so_far.done size before is));
      put = λ size before is.
          texts_next (g.R.Roles.role c.args.roles.now) (g.N.Notes.note c.args.notes.now) size before i es e _ _ _ c.loop-event-test.true c.event-item.is (so_far.put size before is)
          (c.in_ok-put_step.ensures.put size (before ++ take i es) (so_far.done size before is));
    }

pub returns-in_err-put_step-clause-too_many : goal.returns-in_err-put_step-clause-too_many
returns-in_err-put_step-clause-too_many g c = λ size before is x.
    let i = c.loop-event.event-index in
    let es = c.args.events.now in
    let many = c.in_err-put_step.ensures.too_many size (before ++ take i es) (c.loop-event.invariant.done size before is) (search (rules, x)) in
    let less = callers_so_far before i es c.event-item.result c.loop-event-test.true c.event-item.is in
    omega (arith, many, less)

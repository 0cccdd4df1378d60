use Rattle.std.proofs.Common.{◌<◌, Some, length, refl, subst, sym}
use Rattle.std.specs.Prelude.{IfSome, slice_index_or, slice_set}
use Rattle.rounds.proofs.Showing.{get_at}
use Rattle.cluster_runs.specs.Shown.{Hears}
use Rattle.cluster_runs.proofs.Showing.{at_err, stay_at}
use Rattle.cluster_runs.proofs.applying.on_reply.Goals as goal

pub returns-in_err-take-clause-stays : goal.returns-in_err-take-clause-stays
returns-in_err-take-clause-stays g c =
    let xs = c.args.controllers.now in
    let low = subst (λ o. IfSome o (λ n. n < length xs)) c.in-Some.is c.requires in
    let x = slice_index_or xs c.in-Some.number c.index-controllers-number.result in
    at_err c.from_residual.result _ (stay_at g.C.ControlLoop.reconciler g.C.ControlLoop.phase xs c.in-Some.number x c.take.new.self
    (get_at xs c.in-Some.number c.index-controllers-number.result low) c.take.ensures.reconciler c.in_err-take.ensures.memory)

pub returns-clause-hears : goal.returns-clause-hears
returns-clause-hears g c =
    let xs = c.args.controllers.now in
    let low = subst (λ o. IfSome o (λ n. n < length xs)) c.in-Some.is c.requires in
    let ys = slice_set xs c.in-Some.number c.take.new.self in
    subst (λ o. Hears g.C.ControlLoop.reconciler g.C.ControlLoop.phase g.C.ControlLoop.is_waiting xs ys o c.args.delivered.now) (sym c.in-Some.is)
    (subst (λ r. Hears g.C.ControlLoop.reconciler g.C.ControlLoop.phase g.C.ControlLoop.is_waiting xs ys (Some c.in-Some.number) r) (sym c.in-Some-delivered.is) (record {
      old = slice_index_or xs c.in-Some.number c.index-controllers-number.result;
      new = c.take.new.self;
      there = get_at xs c.in-Some.number c.index-controllers-number.result low;
      now_is = refl;
      reconciler_is = c.take.ensures.reconciler;
      phase_is = c.in_ok-take.ensures.taken;
    }))

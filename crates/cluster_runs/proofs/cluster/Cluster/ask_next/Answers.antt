use Rattle.std.proofs.Common.{◌≡◌, ◌<◌, ℕ, ap, rules, subst, sym}
use Rattle.std.specs.Prelude.{Err}
use Rattle.cluster_runs.specs.declared.event.ClusterEvent.TheVariants.{Next}
use Rattle.cluster_runs.specs.Turns.{Course, asked, carried}
use Rattle.cluster_runs.proofs.Leading.{event_halts, event_leads, goes_as, goes_no_further, goes_on}
use Rattle.cluster_runs.proofs.Parts.{asks_next}
use Rattle.cluster_runs.proofs.cluster.Cluster.ask_next.Goals as goal

abbrev own : (c : ℕ) → Course
own c = λ z count reconcilers k. carried (k.callers c) z count reconcilers k

pub returns-in_err-call_next : goal.returns-in_err-call_next
returns-in_err-call_next g c =
    let fault = c.in_err-call_next.field-0.0 in
    let is : c.from_residual.result ≡ Err fault = search rules in
    goes_no_further g.C.ControlLoop.reconciler g.C.ControlLoop.phase g.C.ControlLoop.is_waiting fault is (search rules)
    (event_halts g.C.ControlLoop.reconciler g.C.ControlLoop.phase g.C.ControlLoop.is_waiting fault (Next c.args.number) (own c.args.number) c.args.self.now c.args.controllers.now c.call_next.new.controllers c.in_err-call_next.ensures.stays (λ many. c.in_err-call_next.ensures.too_many (ap Err many)))

pub returns : goal.returns
returns g c =
    let n = c.args.number in
    let mid = c.call_next.new.self in
    let between = c.call_next.new.controllers in
    let kept = c.in_ok-call_next.ensures.consistent in
    let there = subst (λ m. n < m) (sym kept.many) c.requires.there in
    goes_on g.C.ControlLoop.reconciler g.C.ControlLoop.phase g.C.ControlLoop.is_waiting (asked n) kept.many kept.present
    (event_leads g.C.ControlLoop.reconciler g.C.ControlLoop.phase g.C.ControlLoop.is_waiting (Next n) (own n) c.args.self.now mid c.args.controllers.now between c.in_ok-call_next.ensures.shows)
    (goes_as g.C.ControlLoop.reconciler g.C.ControlLoop.phase g.C.ControlLoop.is_waiting (own n) (asks_next g.C.ControlLoop.reconciler g.C.ControlLoop.phase g.C.ControlLoop.is_waiting n c.index-caller.result.now mid between there c.index-caller.ensures) c.carry.ensures)

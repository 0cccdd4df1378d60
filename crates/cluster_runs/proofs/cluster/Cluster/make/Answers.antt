use Rattle.std.proofs.Common.{◌≡◌, ap, rules, subst, sym}
use Rattle.std.specs.Prelude.{Err, IfErr}
use Rattle.cluster_runs.specs.declared.event.ClusterEvent.TheVariants.{Step}
use Rattle.cluster_runs.specs.Leading.{Halts, Leads}
use Rattle.cluster_runs.specs.Turns.{Course, ends_with, reply_of, step_by}
use Rattle.cluster_runs.proofs.Leading.{event_halts, event_leads, reply_halts, reply_leads}
use Rattle.cluster_runs.proofs.cluster.Cluster.make.Goals as goal

pub returns-in_default-clause-leads : goal.returns-in_default-clause-leads
returns-in_default-clause-leads g c = λ next.
    subst (λ o. Leads g.C.ControlLoop.reconciler g.C.ControlLoop.phase g.C.ControlLoop.is_waiting (step_by c.args.event.now o next) next c.args.self.now c.step.new.self c.args.controllers.now c.step.new.controllers) c.in_default.ensures
    (event_leads g.C.ControlLoop.reconciler g.C.ControlLoop.phase g.C.ControlLoop.is_waiting (Step c.args.event.now) next c.args.self.now c.step.new.self c.args.controllers.now c.step.new.controllers c.in_ok-step.ensures.shows)

pub returns-in_err-step-clause-halts : goal.returns-in_err-step-clause-halts
returns-in_err-step-clause-halts g c =
    let fault = c.in_err-step.field-0.0 in
    let is : c.from_residual.result ≡ Err fault = search rules in
    subst (λ r. IfErr r (λ fault. (next : Course) → Halts g.C.ControlLoop.reconciler g.C.ControlLoop.phase g.C.ControlLoop.is_waiting fault (step_by c.args.event.now (reply_of c.args.event.now) next) c.args.self.now c.args.controllers.now c.step.new.controllers)) (sym is)
    (λ next. subst (λ o. Halts g.C.ControlLoop.reconciler g.C.ControlLoop.phase g.C.ControlLoop.is_waiting fault (step_by c.args.event.now o next) c.args.self.now c.args.controllers.now c.step.new.controllers) c.in_default.ensures
    (event_halts g.C.ControlLoop.reconciler g.C.ControlLoop.phase g.C.ControlLoop.is_waiting fault (Step c.args.event.now) next c.args.self.now c.args.controllers.now c.step.new.controllers c.in_err-step.ensures.stays (λ many. c.in_err-step.ensures.too_many (ap Err many))))

pub returns-clause-leads : goal.returns-clause-leads
returns-clause-leads g c = λ next.
    subst (λ o. Leads g.C.ControlLoop.reconciler g.C.ControlLoop.phase g.C.ControlLoop.is_waiting (step_by c.args.event.now o next) (ends_with c.in_ok-delivered.delivered) c.args.self.now c.deliver_reply.new.self c.args.controllers.now c.deliver_reply.new.controllers) c.in-Some.ensures
    (reply_leads g.C.ControlLoop.reconciler g.C.ControlLoop.phase g.C.ControlLoop.is_waiting c.in-Some.caller c.in_ok-delivered.delivered c.args.self.now c.deliver_reply.new.self c.args.controllers.now c.deliver_reply.new.controllers c.in_ok-delivered.ensures.applies.shows c.in_ok-delivered.ensures.delivered)

pub returns-in_err-delivered-clause-halts : goal.returns-in_err-delivered-clause-halts
returns-in_err-delivered-clause-halts g c =
    let fault = c.in_err-delivered.field-0.0 in
    let is : c.from_residual-in_err-delivered.result ≡ Err fault = search rules in
    subst (λ r. IfErr r (λ fault. (next : Course) → Halts g.C.ControlLoop.reconciler g.C.ControlLoop.phase g.C.ControlLoop.is_waiting fault (step_by c.args.event.now (reply_of c.args.event.now) next) c.args.self.now c.args.controllers.now c.deliver_reply.new.controllers)) (sym is)
    (λ next. subst (λ o. Halts g.C.ControlLoop.reconciler g.C.ControlLoop.phase g.C.ControlLoop.is_waiting fault (step_by c.args.event.now o next) c.args.self.now c.args.controllers.now c.deliver_reply.new.controllers) c.in-Some.ensures
    (reply_halts g.C.ControlLoop.reconciler g.C.ControlLoop.phase g.C.ControlLoop.is_waiting fault c.in-Some.caller c.args.self.now c.args.controllers.now c.deliver_reply.new.controllers c.in_err-delivered.ensures.applies.stays (λ many. c.in_err-delivered.ensures.applies.too_many (ap Err many))))

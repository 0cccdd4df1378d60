use Rattle.std.proofs.Common.{◌≡◌, ap, rules, subst, sym}
use Rattle.std.specs.Prelude.{Err}
use Rattle.cluster_runs.specs.Leading.{Halts, Leads, GoesAlong}
use Rattle.cluster_runs.specs.Turns.{course_of, ends_with, nothing}
use Rattle.cluster_runs.proofs.Leading.{event_halts, event_leads, goes_no_further}
use Rattle.cluster_runs.proofs.cluster.Cluster.turn.Goals as goal

pub returns-in_ok-apply_event-in-Event : goal.returns-in_ok-apply_event-in-Event
returns-in_ok-apply_event-in-Event g c = record {
  consistent = search rules;
  leads = subst (λ t. Leads g.C.ControlLoop.reconciler g.C.ControlLoop.phase g.C.ControlLoop.is_waiting (course_of c.args.kubelet c.args.namespaces.now t) nothing c.args.self.now c.apply_event.new.self c.args.controllers.now c.apply_event.new.controllers) (sym c.in-Event.is)
      (event_leads g.C.ControlLoop.reconciler g.C.ControlLoop.phase g.C.ControlLoop.is_waiting c.in-Event.event nothing c.args.self.now c.apply_event.new.self c.args.controllers.now c.apply_event.new.controllers c.in_ok-apply_event-in-Event.ensures.shows);
  halts = search rules;
}

pub returns-in_err-apply_event-in-Event : goal.returns-in_err-apply_event-in-Event
returns-in_err-apply_event-in-Event g c =
    let fault = c.in_err-apply_event-in-Event.field-0.0 in
    let is : c.from_residual.result ≡ Err fault = search rules in
    goes_no_further g.C.ControlLoop.reconciler g.C.ControlLoop.phase g.C.ControlLoop.is_waiting fault is (search rules)
    (subst (λ t. Halts g.C.ControlLoop.reconciler g.C.ControlLoop.phase g.C.ControlLoop.is_waiting fault (course_of c.args.kubelet c.args.namespaces.now t) c.args.self.now c.args.controllers.now c.apply_event.new.controllers) (sym c.in-Event.is)
    (event_halts g.C.ControlLoop.reconciler g.C.ControlLoop.phase g.C.ControlLoop.is_waiting fault c.in-Event.event nothing c.args.self.now c.args.controllers.now c.apply_event.new.controllers c.in_err-apply_event-in-Event.ensures.stays (λ many. c.in_err-apply_event-in-Event.ensures.too_many (ap Err many))))

pub returns-in-Run : goal.returns-in-Run
returns-in-Run g c =
    subst (λ t. GoesAlong g.C.ControlLoop.reconciler g.C.ControlLoop.phase g.C.ControlLoop.is_waiting (course_of c.args.kubelet c.args.namespaces.now t) ends_with c.args.self.now c.run.new.self c.args.controllers.now c.run.new.controllers c.run.result) (sym c.in-Run.is) c.run.ensures

pub returns-in-RunCaller : goal.returns-in-RunCaller
returns-in-RunCaller g c =
    subst (λ t. GoesAlong g.C.ControlLoop.reconciler g.C.ControlLoop.phase g.C.ControlLoop.is_waiting (course_of c.args.kubelet c.args.namespaces.now t) ends_with c.args.self.now c.carry.new.self c.args.controllers.now c.carry.new.controllers c.carry.result) (sym c.in-RunCaller.is) c.carry.ensures

pub returns-in-Ask : goal.returns-in-Ask
returns-in-Ask g c =
    subst (λ t. GoesAlong g.C.ControlLoop.reconciler g.C.ControlLoop.phase g.C.ControlLoop.is_waiting (course_of c.args.kubelet c.args.namespaces.now t) ends_with c.args.self.now c.ask.new.self c.args.controllers.now c.ask.new.controllers c.ask.result) (sym c.in-Ask.is) c.ask.ensures

pub returns-in_ok-round-in-Round : goal.returns-in_ok-round-in-Round
returns-in_ok-round-in-Round g c = record {
  consistent = search rules;
  leads = subst (λ t. Leads g.C.ControlLoop.reconciler g.C.ControlLoop.phase g.C.ControlLoop.is_waiting (course_of c.args.kubelet c.args.namespaces.now t) nothing c.args.self.now c.round.new.self c.args.controllers.now c.round.new.controllers) (sym c.in-Round.is) c.in_ok-round-in-Round.ensures.leads;
  halts = search rules;
}

pub returns-in_err-round-in-Round : goal.returns-in_err-round-in-Round
returns-in_err-round-in-Round g c =
    let fault = c.in_err-round-in-Round.field-0.0 in
    let is : c.from_residual-in_err-round-in-Round.result ≡ Err fault = search rules in
    goes_no_further g.C.ControlLoop.reconciler g.C.ControlLoop.phase g.C.ControlLoop.is_waiting fault is (search rules)
    (subst (λ t. Halts g.C.ControlLoop.reconciler g.C.ControlLoop.phase g.C.ControlLoop.is_waiting fault (course_of c.args.kubelet c.args.namespaces.now t) c.args.self.now c.args.controllers.now c.round.new.controllers) (sym c.in-Round.is) c.in_err-round-in-Round.ensures.halts)

pub returns-in_ok-approach-in-Approach : goal.returns-in_ok-approach-in-Approach
returns-in_ok-approach-in-Approach g c = record {
  consistent = search rules;
  leads = subst (λ t. Leads g.C.ControlLoop.reconciler g.C.ControlLoop.phase g.C.ControlLoop.is_waiting (course_of c.args.kubelet c.args.namespaces.now t) nothing c.args.self.now c.approach.new.self c.args.controllers.now c.approach.new.controllers) (sym c.in-Approach.is) c.in_ok-approach-in-Approach.ensures.leads;
  halts = search rules;
}

pub returns-in_err-approach-in-Approach : goal.returns-in_err-approach-in-Approach
returns-in_err-approach-in-Approach g c =
    let fault = c.in_err-approach-in-Approach.field-0.0 in
    let is : c.from_residual-in_err-approach-in-Approach.result ≡ Err fault = search rules in
    goes_no_further g.C.ControlLoop.reconciler g.C.ControlLoop.phase g.C.ControlLoop.is_waiting fault is (search rules)
    (subst (λ t. Halts g.C.ControlLoop.reconciler g.C.ControlLoop.phase g.C.ControlLoop.is_waiting fault (course_of c.args.kubelet c.args.namespaces.now t) c.args.self.now c.args.controllers.now c.approach.new.controllers) (sym c.in-Approach.is) c.in_err-approach-in-Approach.ensures.halts)

pub returns-in_ok-settle-in-Settle : goal.returns-in_ok-settle-in-Settle
returns-in_ok-settle-in-Settle g c = record {
  consistent = search rules;
  leads = subst (λ t. Leads g.C.ControlLoop.reconciler g.C.ControlLoop.phase g.C.ControlLoop.is_waiting (course_of c.args.kubelet c.args.namespaces.now t) nothing c.args.self.now c.settle.new.self c.args.controllers.now c.settle.new.controllers) (sym c.in-Settle.is) c.in_ok-settle-in-Settle.ensures.leads;
  halts = search rules;
}

pub returns-in_err-settle-in-Settle : goal.returns-in_err-settle-in-Settle
returns-in_err-settle-in-Settle g c =
    let fault = c.in_err-settle-in-Settle.field-0.0 in
    let is : c.from_residual-in_err-settle-in-Settle.result ≡ Err fault = search rules in
    goes_no_further g.C.ControlLoop.reconciler g.C.ControlLoop.phase g.C.ControlLoop.is_waiting fault is (search rules)
    (subst (λ t. Halts g.C.ControlLoop.reconciler g.C.ControlLoop.phase g.C.ControlLoop.is_waiting fault (course_of c.args.kubelet c.args.namespaces.now t) c.args.self.now c.args.controllers.now c.settle.new.controllers) (sym c.in-Settle.is) c.in_err-settle-in-Settle.ensures.halts)

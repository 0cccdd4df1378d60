use Rattle.std.proofs.Common.{Some, None, suc}
use Rattle.std.proofs.lemmas.Result.{IfErr-weaker, IfOk-weaker}
use Rattle.cluster_runs.specs.Leading.{IsShownAs, after_step}
use Rattle.cluster_runs.specs.Turns.{carried_in, nothing, reply_of, step_by}
use Rattle.cluster_runs.proofs.Leading.{carries_on, comes_as, ends_as, halts_as}
use Rattle.cluster_runs.proofs.cluster.Cluster.advance.Goals as goal

pub returns-in_default-clause-leads : goal.returns-in_default-clause-leads
returns-in_default-clause-leads g c = λ steps.
    ends_as g.C.ControlLoop.reconciler g.C.ControlLoop.phase g.C.ControlLoop.is_waiting (carried_in (suc steps) c.args.caller) nothing c.args.self.now c.args.controllers.now
    (λ z reconcilers k shows. carries_on steps c.args.caller z _ reconcilers k None (c.in_default.ensures z k.events shows.0.0.taken))

pub returns-clause-leads : goal.returns-clause-leads
returns-clause-leads g c =
    let e = c.in-Some.event in
    IfOk-weaker c.make-went.result _ _
    (λ went leads steps. comes_as g.C.ControlLoop.reconciler g.C.ControlLoop.phase g.C.ControlLoop.is_waiting (IsShownAs g.C.ControlLoop.reconciler g.C.ControlLoop.phase g.C.ControlLoop.is_waiting c.make-went.new.self c.make-went.new.controllers)
    (carried_in (suc steps) c.args.caller) (step_by e (reply_of e) (carried_in steps c.args.caller)) (after_step went (carried_in steps c.args.caller)) c.args.self.now c.args.controllers.now
    (λ z reconcilers k shows. carries_on steps c.args.caller z _ reconcilers k (Some e) (c.in-Some.ensures z k.events shows.0.0.taken)) (leads (carried_in steps c.args.caller)))
    c.make-went.ensures.leads

pub returns-clause-halts : goal.returns-clause-halts
returns-clause-halts g c =
    let e = c.in-Some.event in
    IfErr-weaker c.make-went.result _ _
    (λ fault halts steps. halts_as g.C.ControlLoop.reconciler g.C.ControlLoop.phase g.C.ControlLoop.is_waiting fault (carried_in (suc steps) c.args.caller) (step_by e (reply_of e) (carried_in steps c.args.caller)) c.args.self.now c.args.controllers.now c.make-went.new.controllers
    (λ z reconcilers k shows. carries_on steps c.args.caller z _ reconcilers k (Some e) (c.in-Some.ensures z k.events shows.0.0.taken)) (halts (carried_in steps c.args.caller)))
    c.make-went.ensures.halts

use Rattle.std.proofs.Common.{◌≡◌, ◌∙◌, ap, rules, sym}
use Rattle.std.specs.Prelude.{Err}
use Rattle.std.proofs.lemmas.Bool.{false≢true}
use Rattle.cluster_runs.specs.declared.event.ClusterEvent.TheVariants.{Outside}
use Rattle.cluster_runs.specs.Turns.{asked_as, carried, event_and, nothing}
use Rattle.cluster_runs.proofs.Leading.{ends_as, event_halts, event_leads, goes_as, goes_no_further, goes_on, halts_as}
use Rattle.cluster_runs.proofs.Parts.{as_busy, as_idle}
use Rattle.cluster_runs.proofs.Showing.{not_idle}
use Rattle.cluster_runs.proofs.cluster.Cluster.ask.Goals as goal

pub returns-then-not-idle : goal.returns-then-not-idle
returns-then-not-idle g c = record {
  consistent = search rules;
  leads = ends_as g.C.ControlLoop.reconciler g.C.ControlLoop.phase g.C.ControlLoop.is_waiting (asked_as c.args.caller c.args.request.now) nothing c.args.self.now c.args.controllers.now
      (λ z reconcilers k shows. as_busy c.args.caller c.args.request.now z _ reconcilers k
      (not_idle g.C.ControlLoop.reconciler g.C.ControlLoop.phase g.C.ControlLoop.is_waiting _ (λ idle. false≢true (sym c.if-not-idle.true ∙ (c.idle.ensures z k.events shows.0.0.taken).1 idle))));
  halts = search rules;
}

pub returns-in_err-outside : goal.returns-in_err-outside
returns-in_err-outside g c =
    let fault = c.in_err-outside.field-0.0 in
    let is : c.from_residual.result ≡ Err fault = search rules in
    let e = Outside c.args.caller c.args.request.now in
    goes_no_further g.C.ControlLoop.reconciler g.C.ControlLoop.phase g.C.ControlLoop.is_waiting fault is (search rules)
    (halts_as g.C.ControlLoop.reconciler g.C.ControlLoop.phase g.C.ControlLoop.is_waiting fault (asked_as c.args.caller c.args.request.now) (event_and e (carried c.args.caller)) c.args.self.now c.args.controllers.now c.outside.new.controllers
    (λ z reconcilers k shows. as_idle c.args.caller c.args.request.now z _ reconcilers k ((c.idle.ensures z k.events shows.0.0.taken).0 c.if-not-idle.false))
    (event_halts g.C.ControlLoop.reconciler g.C.ControlLoop.phase g.C.ControlLoop.is_waiting fault e (carried c.args.caller) c.args.self.now c.args.controllers.now c.outside.new.controllers c.in_err-outside.ensures.stays (λ many. c.in_err-outside.ensures.too_many (ap Err many))))

pub returns : goal.returns
returns g c =
    let e = Outside c.args.caller c.args.request.now in
    let kept = c.in_ok-outside.ensures.consistent in
    goes_as g.C.ControlLoop.reconciler g.C.ControlLoop.phase g.C.ControlLoop.is_waiting (asked_as c.args.caller c.args.request.now)
    (λ z reconcilers k shows. as_idle c.args.caller c.args.request.now z _ reconcilers k ((c.idle.ensures z k.events shows.0.0.taken).0 c.if-not-idle.false))
    (goes_on g.C.ControlLoop.reconciler g.C.ControlLoop.phase g.C.ControlLoop.is_waiting (event_and e (carried c.args.caller)) kept.many kept.present
    (event_leads g.C.ControlLoop.reconciler g.C.ControlLoop.phase g.C.ControlLoop.is_waiting e (carried c.args.caller) c.args.self.now c.outside.new.self c.args.controllers.now c.outside.new.controllers c.in_ok-outside.ensures.shows) c.carry.ensures)

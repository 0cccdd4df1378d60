use Rattle.std.proofs.Common.{◌≡◌, ◌∙◌, refl, rules, sym}
use Rattle.std.specs.Prelude.{Err}
use Rattle.cluster_runs.specs.Turns.{asked_all, asked_as}
use Rattle.cluster_runs.proofs.Leading.{goes_no_further, self_leads}
use Rattle.cluster_runs.proofs.Parts.{walked_all, walked_halts, walked_more}
use Rattle.cluster_runs.proofs.cluster.Cluster.ask_all.Goals as goal

pub loop-request-init : goal.loop-request-init
loop-request-init g c = record {
  many = refl;
  present = c.requires.present;
  follows = c.requires.follows;
  leads = self_leads g.C.ControlLoop.reconciler g.C.ControlLoop.phase g.C.ControlLoop.is_waiting (asked_all c.args.caller c.args.requests.now) c.args.self.now c.args.controllers.now;
}

pub loop-request-preserved : goal.loop-request-preserved
loop-request-preserved g c = let kept = c.loop-request.invariant in record {
  many = c.in_ok-delivered.ensures.consistent.many ∙ kept.many;
  present = c.in_ok-delivered.ensures.consistent.many ∙ kept.present ∙ sym c.in_ok-delivered.ensures.consistent.present;
  follows = c.in_ok-delivered.ensures.consistent.follows;
  leads = walked_more g.C.ControlLoop.reconciler g.C.ControlLoop.phase g.C.ControlLoop.is_waiting (λ xs. asked_all c.args.caller xs) (λ x. asked_as c.args.caller x) refl (λ x xs. refl) (asked_all c.args.caller c.args.requests.now) c.args.requests.now c.loop-request.request-index c.request-item.result c.in_ok-delivered.delivered c.args.self.now c.loop-request.self c.ask.new.self c.args.controllers.now c.loop-request.controllers c.ask.new.controllers
      c.loop-request-test.true c.request-item.is kept.many kept.leads c.in_ok-delivered.ensures.leads;
}

pub returns-in_err-delivered : goal.returns-in_err-delivered
returns-in_err-delivered g c =
    let kept = c.loop-request.invariant in
    let fault = c.in_err-delivered.field-0.0 in
    let is : c.from_residual.result ≡ Err fault = search rules in
    goes_no_further g.C.ControlLoop.reconciler g.C.ControlLoop.phase g.C.ControlLoop.is_waiting fault is (search rules)
    (walked_halts g.C.ControlLoop.reconciler g.C.ControlLoop.phase g.C.ControlLoop.is_waiting (λ xs. asked_all c.args.caller xs) (λ x. asked_as c.args.caller x) refl (λ x xs. refl) (asked_all c.args.caller c.args.requests.now) c.args.requests.now c.loop-request.request-index c.request-item.result fault c.args.self.now c.loop-request.self c.args.controllers.now c.loop-request.controllers c.ask.new.controllers
    c.loop-request-test.true c.request-item.is kept.many kept.leads c.in_err-delivered.ensures.halts)

pub returns : goal.returns
returns g c = record {
  consistent = search rules;
  leads = walked_all g.C.ControlLoop.reconciler g.C.ControlLoop.phase g.C.ControlLoop.is_waiting (λ xs. asked_all c.args.caller xs) (λ x. asked_as c.args.caller x) refl (λ x xs. refl) (asked_all c.args.caller c.args.requests.now) c.args.requests.now c.loop-request.request-index c.args.self.now c.loop-request.self c.args.controllers.now c.loop-request.controllers c.loop-request-test.false c.loop-request.invariant.leads;
  halts = search rules;
}

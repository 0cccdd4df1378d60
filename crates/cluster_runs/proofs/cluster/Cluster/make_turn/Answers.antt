use Rattle.std.proofs.Common.{◌≡◌, ◌∙◌, None, refl, rules, sym}
use Rattle.std.specs.Prelude.{Err}
use Rattle.cluster_runs.specs.Turns.{carried, kubelet_turn, tended, tended_all}
use Rattle.cluster_runs.proofs.Leading.{first_halts, first_leads, goes_no_further}
use Rattle.cluster_runs.proofs.Parts.{walked_all, walked_halts, walked_more}
use Rattle.cluster_runs.proofs.cluster.Cluster.make_turn.Goals as goal

pub returns-in_err-delivered : goal.returns-in_err-delivered
returns-in_err-delivered g c =
    let fault = c.in_err-delivered.field-0.0 in
    let is : c.from_residual.result ≡ Err fault = search rules in
    goes_no_further g.C.ControlLoop.reconciler g.C.ControlLoop.phase g.C.ControlLoop.is_waiting fault is (search rules)
    (first_halts g.C.ControlLoop.reconciler g.C.ControlLoop.phase g.C.ControlLoop.is_waiting fault (carried c.args.caller) (λ delivered. tended_all c.args.caller c.args.namespaces.now) c.args.self.now c.args.controllers.now c.carry.new.controllers c.in_err-delivered.ensures.halts)

pub loop-namespace-init : goal.loop-namespace-init
loop-namespace-init g c = record {
  many = c.in_ok-delivered.ensures.consistent.many;
  present = c.in_ok-delivered.ensures.consistent.many ∙ c.requires.present ∙ sym c.in_ok-delivered.ensures.consistent.present;
  follows = c.in_ok-delivered.ensures.consistent.follows;
  leads = first_leads g.C.ControlLoop.reconciler g.C.ControlLoop.phase g.C.ControlLoop.is_waiting (carried c.args.caller) c.in_ok-delivered.delivered (λ delivered. tended_all c.args.caller c.args.namespaces.now) c.args.self.now c.carry.new.self c.args.controllers.now c.carry.new.controllers c.in_ok-delivered.ensures.leads;
}

pub loop-namespace-preserved : goal.loop-namespace-preserved
loop-namespace-preserved g c = let kept = c.loop-namespace.invariant in record {
  many = c.in_ok-tend.ensures.consistent.many ∙ kept.many;
  present = c.in_ok-tend.ensures.consistent.many ∙ kept.present ∙ sym c.in_ok-tend.ensures.consistent.present;
  follows = c.in_ok-tend.ensures.consistent.follows;
  leads = walked_more g.C.ControlLoop.reconciler g.C.ControlLoop.phase g.C.ControlLoop.is_waiting (λ xs. tended_all c.args.caller xs) (λ x. tended c.args.caller x) refl (λ x xs. refl) (kubelet_turn c.args.caller c.args.namespaces.now) c.args.namespaces.now c.loop-namespace.namespace-index c.namespace-item.result None c.args.self.now c.loop-namespace.self c.tend.new.self c.args.controllers.now c.loop-namespace.controllers c.tend.new.controllers
      c.loop-namespace-test.true c.namespace-item.is kept.many kept.leads c.in_ok-tend.ensures.leads;
}

pub returns-in_err-tend : goal.returns-in_err-tend
returns-in_err-tend g c =
    let kept = c.loop-namespace.invariant in
    let fault = c.in_err-tend.field-0.0 in
    let is : c.from_residual-in_err-tend.result ≡ Err fault = search rules in
    goes_no_further g.C.ControlLoop.reconciler g.C.ControlLoop.phase g.C.ControlLoop.is_waiting fault is (search rules)
    (walked_halts g.C.ControlLoop.reconciler g.C.ControlLoop.phase g.C.ControlLoop.is_waiting (λ xs. tended_all c.args.caller xs) (λ x. tended c.args.caller x) refl (λ x xs. refl) (kubelet_turn c.args.caller c.args.namespaces.now) c.args.namespaces.now c.loop-namespace.namespace-index c.namespace-item.result fault c.args.self.now c.loop-namespace.self c.args.controllers.now c.loop-namespace.controllers c.tend.new.controllers
    c.loop-namespace-test.true c.namespace-item.is kept.many kept.leads c.in_err-tend.ensures.halts)

pub returns : goal.returns
returns g c = record {
  consistent = search rules;
  leads = walked_all g.C.ControlLoop.reconciler g.C.ControlLoop.phase g.C.ControlLoop.is_waiting (λ xs. tended_all c.args.caller xs) (λ x. tended c.args.caller x) refl (λ x xs. refl) (kubelet_turn c.args.caller c.args.namespaces.now) c.args.namespaces.now c.loop-namespace.namespace-index c.args.self.now c.loop-namespace.self c.args.controllers.now c.loop-namespace.controllers c.loop-namespace-test.false c.loop-namespace.invariant.leads;
  halts = search rules;
}

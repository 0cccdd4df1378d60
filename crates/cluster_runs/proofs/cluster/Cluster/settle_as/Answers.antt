use Rattle.std.proofs.Common.{◌≡◌, ◌∙◌, ◌+◌, ◌-◌, None, refl, rules, subst, sym}
use Rattle.std.specs.Prelude.{Err}
use Rattle.cluster_runs.specs.Leading.{Halts, Leads}
use Rattle.cluster_runs.specs.Turns.{settled_as, settled_once}
use Rattle.cluster_runs.proofs.Leading.{far_begins, far_ends, far_halts, far_on, first_halts, first_leads, goes_no_further, self_leads}
use Rattle.cluster_runs.proofs.Parts.{settles_none, settles_on}
use Rattle.cluster_runs.proofs.cluster.Cluster.settle_as.Goals as goal

pub loop-init : goal.loop-init
loop-init g c = record {
  many = refl;
  present = c.requires.present;
  follows = c.requires.follows;
  leads = far_begins g.C.ControlLoop.reconciler g.C.ControlLoop.phase g.C.ControlLoop.is_waiting (settled_as c.args.rounds c.args.kubelet c.args.namespaces.now) (λ rounds. settled_as rounds c.args.kubelet c.args.namespaces.now) c.args.rounds c.args.self.now c.args.controllers.now
      (self_leads g.C.ControlLoop.reconciler g.C.ControlLoop.phase g.C.ControlLoop.is_waiting (settled_as c.args.rounds c.args.kubelet c.args.namespaces.now) c.args.self.now c.args.controllers.now);
}

pub loop-preserved : goal.loop-preserved
loop-preserved g c =
    let kept = c.loop.invariant in
    let left = c.args.rounds - (c.loop.counter + 1) in
    let rest = settled_as left c.args.kubelet c.args.namespaces.now in record {
      many = c.in_ok-settle_once.ensures.consistent.many ∙ kept.many;
      present = c.in_ok-settle_once.ensures.consistent.many ∙ kept.present ∙ sym c.in_ok-settle_once.ensures.consistent.present;
      follows = c.in_ok-settle_once.ensures.consistent.follows;
      leads = far_on g.C.ControlLoop.reconciler g.C.ControlLoop.phase g.C.ControlLoop.is_waiting (settled_as c.args.rounds c.args.kubelet c.args.namespaces.now) (λ rounds. settled_as rounds c.args.kubelet c.args.namespaces.now) c.args.rounds c.loop.counter rest c.args.self.now c.loop.self c.settle_once.new.self
          c.args.controllers.now c.loop.controllers c.settle_once.new.controllers c.loop-test.true kept.many kept.leads
          (subst (λ whole. Leads g.C.ControlLoop.reconciler g.C.ControlLoop.phase g.C.ControlLoop.is_waiting whole rest c.loop.self c.settle_once.new.self c.loop.controllers c.settle_once.new.controllers) (sym (settles_on left c.args.kubelet c.args.namespaces.now))
          (first_leads g.C.ControlLoop.reconciler g.C.ControlLoop.phase g.C.ControlLoop.is_waiting (settled_once c.args.kubelet c.args.namespaces.now) None (λ delivered. rest) c.loop.self c.settle_once.new.self c.loop.controllers c.settle_once.new.controllers c.in_ok-settle_once.ensures.leads));
    }

pub returns-in_err-settle_once : goal.returns-in_err-settle_once
returns-in_err-settle_once g c =
    let kept = c.loop.invariant in
    let left = c.args.rounds - (c.loop.counter + 1) in
    let rest = settled_as left c.args.kubelet c.args.namespaces.now in
    let fault = c.in_err-settle_once.field-0.0 in
    let is : c.from_residual.result ≡ Err fault = search rules in
    goes_no_further g.C.ControlLoop.reconciler g.C.ControlLoop.phase g.C.ControlLoop.is_waiting fault is (search rules)
    (far_halts g.C.ControlLoop.reconciler g.C.ControlLoop.phase g.C.ControlLoop.is_waiting (settled_as c.args.rounds c.args.kubelet c.args.namespaces.now) (λ rounds. settled_as rounds c.args.kubelet c.args.namespaces.now) c.args.rounds c.loop.counter fault c.args.self.now c.loop.self c.args.controllers.now c.loop.controllers
    c.settle_once.new.controllers c.loop-test.true kept.many kept.leads
    (subst (λ whole. Halts g.C.ControlLoop.reconciler g.C.ControlLoop.phase g.C.ControlLoop.is_waiting fault whole c.loop.self c.loop.controllers c.settle_once.new.controllers) (sym (settles_on left c.args.kubelet c.args.namespaces.now))
    (first_halts g.C.ControlLoop.reconciler g.C.ControlLoop.phase g.C.ControlLoop.is_waiting fault (settled_once c.args.kubelet c.args.namespaces.now) (λ delivered. rest) c.loop.self c.loop.controllers c.settle_once.new.controllers c.in_err-settle_once.ensures.halts)))

pub returns : goal.returns
returns g c = record {
  consistent = search rules;
  leads = far_ends g.C.ControlLoop.reconciler g.C.ControlLoop.phase g.C.ControlLoop.is_waiting (settled_as c.args.rounds c.args.kubelet c.args.namespaces.now) (λ rounds. settled_as rounds c.args.kubelet c.args.namespaces.now) c.args.rounds c.loop.counter c.args.self.now c.loop.self c.args.controllers.now c.loop.controllers
      (settles_none c.args.kubelet c.args.namespaces.now) c.loop-test.false c.loop.invariant.leads;
  halts = search rules;
}

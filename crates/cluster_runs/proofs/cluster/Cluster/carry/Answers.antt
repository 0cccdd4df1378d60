use Rattle.std.proofs.Common.{◌≡◌, ◌∙◌, ◌+◌, ◌-◌, refl, rules, subst, sym}
use Rattle.std.specs.Prelude.{Err}
use Rattle.cluster_runs.specs.Leading.{Leads, after_step}
use Rattle.cluster_runs.specs.Turns.{carried, carried_in, most_steps}
use Rattle.cluster_runs.proofs.Leading.{carrying_begins, far_ends, far_halts, far_on, goes_no_further, none_carried}
use Rattle.cluster_runs.proofs.cluster.Cluster.carry.Goals as goal

pub loop-init : goal.loop-init
loop-init g c = record {
  many = refl;
  present = c.requires.present;
  follows = c.requires.follows;
  leads = carrying_begins g.C.ControlLoop.reconciler g.C.ControlLoop.phase g.C.ControlLoop.is_waiting c.args.caller c.args.self.now c.args.controllers.now;
}

pub loop-preserved : goal.loop-preserved
loop-preserved g c = let kept = c.loop.invariant in record {
  many = c.in_ok-went.ensures.consistent.many ∙ kept.many;
  present = c.in_ok-went.ensures.consistent.many ∙ kept.present ∙ sym c.in_ok-went.ensures.consistent.present;
  follows = c.in_ok-went.ensures.consistent.follows;
  leads = (let left = carried_in (most_steps - (c.loop.counter + 1)) c.args.caller in
      subst (λ w. Leads g.C.ControlLoop.reconciler g.C.ControlLoop.phase g.C.ControlLoop.is_waiting (carried c.args.caller) (after_step w left) c.args.self.now c.advance.new.self c.args.controllers.now c.advance.new.controllers) c.in-On.is
      (far_on g.C.ControlLoop.reconciler g.C.ControlLoop.phase g.C.ControlLoop.is_waiting (carried c.args.caller) (λ steps. carried_in steps c.args.caller) most_steps c.loop.counter (after_step c.in_ok-went.went left) c.args.self.now c.loop.self c.advance.new.self c.args.controllers.now c.loop.controllers
      c.advance.new.controllers c.loop-test.true kept.many kept.leads (c.in_ok-went.ensures.leads (most_steps - (c.loop.counter + 1)))));
}

pub returns-in-Over : goal.returns-in-Over
returns-in-Over g c =
    let kept = c.loop.invariant in
    let left = carried_in (most_steps - (c.loop.counter + 1)) c.args.caller in
    record {
      consistent = search rules;
      leads = subst (λ w. Leads g.C.ControlLoop.reconciler g.C.ControlLoop.phase g.C.ControlLoop.is_waiting (carried c.args.caller) (after_step w left) c.args.self.now c.advance.new.self c.args.controllers.now c.advance.new.controllers) c.in-Over.is
          (far_on g.C.ControlLoop.reconciler g.C.ControlLoop.phase g.C.ControlLoop.is_waiting (carried c.args.caller) (λ steps. carried_in steps c.args.caller) most_steps c.loop.counter (after_step c.in_ok-went.went left) c.args.self.now c.loop.self c.advance.new.self c.args.controllers.now c.loop.controllers
          c.advance.new.controllers c.loop-test.true kept.many kept.leads (c.in_ok-went.ensures.leads (most_steps - (c.loop.counter + 1))));
      halts = search rules;
    }

pub returns-in_err-went : goal.returns-in_err-went
returns-in_err-went g c =
    let kept = c.loop.invariant in
    let fault = c.in_err-went.field-0.0 in
    let is : c.from_residual.result ≡ Err fault = search rules in
    goes_no_further g.C.ControlLoop.reconciler g.C.ControlLoop.phase g.C.ControlLoop.is_waiting fault is (search rules)
    (far_halts g.C.ControlLoop.reconciler g.C.ControlLoop.phase g.C.ControlLoop.is_waiting (carried c.args.caller) (λ steps. carried_in steps c.args.caller) most_steps c.loop.counter fault c.args.self.now c.loop.self c.args.controllers.now c.loop.controllers
    c.advance.new.controllers c.loop-test.true kept.many kept.leads (c.in_err-went.ensures.halts (most_steps - (c.loop.counter + 1))))

pub returns : goal.returns
returns g c = record {
  consistent = search rules;
  leads = far_ends g.C.ControlLoop.reconciler g.C.ControlLoop.phase g.C.ControlLoop.is_waiting (carried c.args.caller) (λ steps. carried_in steps c.args.caller) most_steps c.loop.counter c.args.self.now c.loop.self c.args.controllers.now c.loop.controllers (none_carried c.args.caller)
      c.loop-test.false c.loop.invariant.leads;
  halts = search rules;
}

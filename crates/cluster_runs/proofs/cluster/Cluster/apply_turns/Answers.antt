use Rattle.std.proofs.Common.{◌≡◌, ◌∙◌, ◌+◌, ◌++◌, ◌∷◌, [], None, ap, arith, length, refl, rules, subst, sym}
use Rattle.std.specs.Prelude.{Err}
use Rattle.cluster_runs.specs.declared.fault.ClusterFault.TheVariants.{Memory as OutOfMemory}
use Rattle.cluster_runs.proofs.Going.{Gone, gone_all, gone_ends, gone_halts, gone_more, gone_none, gone_stays}
use Rattle.cluster_runs.proofs.Leading.{goes_no_further}
use Rattle.cluster_runs.proofs.cluster.Cluster.apply_turns.Goals as goal

pub loop-turn-init : goal.loop-turn-init
loop-turn-init g c = record {
  many = refl;
  present = c.requires.present;
  follows = c.requires.follows;
  gone = subst (λ ends. Gone g.C.ControlLoop.reconciler g.C.ControlLoop.phase g.C.ControlLoop.is_waiting c.args.namespaces.now c.args.turns.now 0 None ends c.args.self.now c.args.self.now c.args.controllers.now c.args.controllers.now) (sym c.new-ends.ensures.items) (gone_none g.C.ControlLoop.reconciler g.C.ControlLoop.phase g.C.ControlLoop.is_waiting c.args.namespaces.now c.args.turns.now c.args.self.now c.args.controllers.now);
}

pub loop-turn-preserved : goal.loop-turn-preserved
loop-turn-preserved g c =
    let kept = c.loop-turn.invariant in
    let fits = c.turn.new.self.events.ok.0 in
    let len = c.len.ensures in
    let many : c.len.result ≡ length c.turn.new.self.events.items = omega (arith, fits, len) in record {
      many = c.in_ok-delivered.ensures.consistent.many ∙ kept.many;
      present = c.in_ok-delivered.ensures.consistent.many ∙ kept.present ∙ sym c.in_ok-delivered.ensures.consistent.present;
      follows = c.in_ok-delivered.ensures.consistent.follows;
      gone = subst (λ ends. Gone g.C.ControlLoop.reconciler g.C.ControlLoop.phase g.C.ControlLoop.is_waiting c.args.namespaces.now c.args.turns.now (c.loop-turn.turn-index + 1) c.kubelet_at-kubelet.result ends c.args.self.now c.turn.new.self c.args.controllers.now c.turn.new.controllers) (sym (c.in_ok-push.ensures.items ∙ ap (λ e. c.loop-turn.ends.items ++ e ∷ []) many))
          (gone_more g.C.ControlLoop.reconciler g.C.ControlLoop.phase g.C.ControlLoop.is_waiting c.args.namespaces.now c.args.turns.now c.loop-turn.turn-index c.turn-item.result c.loop-turn.kubelet c.kubelet_at-kubelet.result c.loop-turn.ends.items c.args.self.now c.loop-turn.self c.args.controllers.now c.loop-turn.controllers c.loop-turn-test.true c.turn-item.is kept.many (λ z reconcilers k shows. sym (c.kubelet_at-kubelet.ensures (length c.loop-turn.controllers) k shows.0.1)) kept.gone c.in_ok-delivered.delivered c.turn.new.self c.turn.new.controllers c.in_ok-delivered.ensures.leads);
    }

pub returns-in_err-delivered-clause-goes_along : goal.returns-in_err-delivered-clause-goes_along
returns-in_err-delivered-clause-goes_along g c =
    let kept = c.loop-turn.invariant in
    let fault = c.in_err-delivered.field-0.0 in
    let is : c.from_residual.result ≡ Err fault = search rules in
    goes_no_further g.C.ControlLoop.reconciler g.C.ControlLoop.phase g.C.ControlLoop.is_waiting fault is (search rules)
    (gone_halts g.C.ControlLoop.reconciler g.C.ControlLoop.phase g.C.ControlLoop.is_waiting c.args.namespaces.now c.args.turns.now c.loop-turn.turn-index c.turn-item.result c.loop-turn.kubelet c.kubelet_at-kubelet.result c.loop-turn.ends.items c.args.self.now c.loop-turn.self c.args.controllers.now c.loop-turn.controllers c.loop-turn-test.true c.turn-item.is kept.many (λ z reconcilers k shows. sym (c.kubelet_at-kubelet.ensures (length c.loop-turn.controllers) k shows.0.1)) kept.gone fault c.turn.new.controllers c.in_err-delivered.ensures.halts)

pub returns-in_err-push-clause-goes_along : goal.returns-in_err-push-clause-goes_along
returns-in_err-push-clause-goes_along g c =
    let kept = c.loop-turn.invariant in
    let is : c.from_residual-in_err-push.result ≡ Err OutOfMemory = search rules in
    goes_no_further g.C.ControlLoop.reconciler g.C.ControlLoop.phase g.C.ControlLoop.is_waiting OutOfMemory is (search rules)
    (gone_stays g.C.ControlLoop.reconciler g.C.ControlLoop.phase g.C.ControlLoop.is_waiting c.args.namespaces.now c.args.turns.now (c.loop-turn.turn-index + 1) c.kubelet_at-kubelet.result _ c.args.self.now c.turn.new.self c.args.controllers.now c.turn.new.controllers (c.in_ok-delivered.ensures.consistent.many ∙ kept.many)
    (gone_more g.C.ControlLoop.reconciler g.C.ControlLoop.phase g.C.ControlLoop.is_waiting c.args.namespaces.now c.args.turns.now c.loop-turn.turn-index c.turn-item.result c.loop-turn.kubelet c.kubelet_at-kubelet.result c.loop-turn.ends.items c.args.self.now c.loop-turn.self c.args.controllers.now c.loop-turn.controllers c.loop-turn-test.true c.turn-item.is kept.many (λ z reconcilers k shows. sym (c.kubelet_at-kubelet.ensures (length c.loop-turn.controllers) k shows.0.1)) kept.gone c.in_ok-delivered.delivered c.turn.new.self c.turn.new.controllers c.in_ok-delivered.ensures.leads))

pub returns-clause-goes_along : goal.returns-clause-goes_along
returns-clause-goes_along g c = record {
  consistent = search rules;
  leads = gone_all g.C.ControlLoop.reconciler g.C.ControlLoop.phase g.C.ControlLoop.is_waiting c.args.namespaces.now c.args.turns.now c.loop-turn.turn-index c.loop-turn.kubelet c.loop-turn.ends.items c.args.self.now c.loop-turn.self c.args.controllers.now c.loop-turn.controllers c.loop-turn-test.false c.loop-turn.invariant.gone;
  halts = search rules;
}

pub returns-clause-ends : goal.returns-clause-ends
returns-clause-ends g c = gone_ends g.C.ControlLoop.reconciler g.C.ControlLoop.phase g.C.ControlLoop.is_waiting c.args.namespaces.now c.args.turns.now c.loop-turn.turn-index c.loop-turn.kubelet c.loop-turn.ends.items c.args.self.now c.loop-turn.self c.args.controllers.now c.loop-turn.controllers c.loop-turn-test.false c.loop-turn.invariant.gone

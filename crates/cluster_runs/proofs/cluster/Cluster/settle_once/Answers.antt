use Rattle.std.proofs.Common.{◌≡◌, None, length, refl, rules}
use Rattle.std.specs.List.{range_with_len}
use Rattle.std.specs.Prelude.{Err}
use Rattle.cluster_runs.specs.Leading.{IsShownAs}
use Rattle.cluster_runs.specs.Turns.{Course, kubelet_turn, nothing, rounds_of, settled_once}
use Rattle.cluster_runs.proofs.Leading.{comes_as, first_halts, first_leads, goes_no_further, goes_on, halts_as}
use Rattle.cluster_runs.proofs.cluster.Cluster.settle_once.Goals as goal

abbrev all_rounds : Course
all_rounds = λ z count reconcilers k. rounds_of (range_with_len 0 count) z count reconcilers k

pub returns-in_err-make_rounds : goal.returns-in_err-make_rounds
returns-in_err-make_rounds g c =
    let fault = c.in_err-make_rounds.field-0.0 in
    let is : c.from_residual.result ≡ Err fault = search rules in
    goes_no_further g.C.ControlLoop.reconciler g.C.ControlLoop.phase g.C.ControlLoop.is_waiting fault is (search rules)
    (first_halts g.C.ControlLoop.reconciler g.C.ControlLoop.phase g.C.ControlLoop.is_waiting fault all_rounds (λ delivered. kubelet_turn c.args.kubelet c.args.namespaces.now) c.args.self.now c.args.controllers.now c.make_rounds.new.controllers
    (halts_as g.C.ControlLoop.reconciler g.C.ControlLoop.phase g.C.ControlLoop.is_waiting fault all_rounds (rounds_of (range_with_len 0 (length c.args.controllers.now))) c.args.self.now c.args.controllers.now c.make_rounds.new.controllers (λ z reconcilers k shows. refl) c.in_err-make_rounds.ensures.halts))

pub returns : goal.returns
returns g c =
    let turn = kubelet_turn c.args.kubelet c.args.namespaces.now in
    let kept = c.in_ok-make_rounds.ensures.consistent in
    goes_on g.C.ControlLoop.reconciler g.C.ControlLoop.phase g.C.ControlLoop.is_waiting (settled_once c.args.kubelet c.args.namespaces.now) kept.many kept.present
    (first_leads g.C.ControlLoop.reconciler g.C.ControlLoop.phase g.C.ControlLoop.is_waiting all_rounds None (λ delivered. turn) c.args.self.now c.make_rounds.new.self c.args.controllers.now c.make_rounds.new.controllers
    (comes_as g.C.ControlLoop.reconciler g.C.ControlLoop.phase g.C.ControlLoop.is_waiting (IsShownAs g.C.ControlLoop.reconciler g.C.ControlLoop.phase g.C.ControlLoop.is_waiting c.make_rounds.new.self c.make_rounds.new.controllers) all_rounds (rounds_of (range_with_len 0 (length c.args.controllers.now))) nothing c.args.self.now c.args.controllers.now (λ z reconcilers k shows. refl) c.in_ok-make_rounds.ensures.leads))
    c.make_turn.ensures

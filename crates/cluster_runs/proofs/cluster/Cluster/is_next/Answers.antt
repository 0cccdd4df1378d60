use Rattle.std.proofs.Common.{◌∙◌, ◌&&◌, ap, sym}
use Rattle.std.specs.Prelude.{slice_index_or}
use Rattle.std.proofs.lemmas.Bool.{false≢true}
use Rattle.interleavings.specs.Trace.{after}
use Rattle.interleavings.specs.World.{opening}
use Rattle.rounds.specs.Phase.{asks}
use Rattle.rounds.proofs.Showing.{get_at}
use Rattle.cluster_runs.specs.Cluster.{is_idle}
use Rattle.cluster_runs.specs.Leading.{is_meant}
use Rattle.cluster_runs.proofs.Showing.{asked_is, at_err, not_idle, peeked_shows, present_at, stay_at}
use Rattle.cluster_runs.proofs.cluster.Cluster.is_next.Goals as goal

pub returns-then-not-idle-clause-peeks : goal.returns-then-not-idle-clause-peeks
returns-then-not-idle-clause-peeks g c = λ z reconcilers k shows.
    let at = present_at _ k c.args.self.now shows.0.1 c.args.number c.index-caller.result.now c.requires.there c.index-caller.ensures in
    let busy = not_idle g.C.ControlLoop.reconciler g.C.ControlLoop.phase g.C.ControlLoop.is_waiting _ (λ idle. false≢true (sym c.if-not-idle.true ∙ (c.idle.ensures z k.events shows.0.0.taken).1 (ap (after z opening k.events).phase at ∙ idle))) in
    (ap (λ b. b && is_meant c.args.meant (asks (reconcilers c.args.number) (k.phases c.args.number))) busy, shows)

pub returns-clause-peeks : goal.returns-clause-peeks
returns-clause-peeks g c = λ z reconcilers k shows.
    let xs = c.args.controllers.now in
    let x = slice_index_or xs c.args.number c.index-controllers-number.result in
    let there = get_at xs c.args.number c.index-controllers-number.result c.requires.there in
    let at = present_at _ k c.args.self.now shows.0.1 c.args.number c.index-caller.result.now c.requires.there c.index-caller.ensures in
    let idle = ap (after z opening k.events).phase (sym at) ∙ (c.idle.ensures z k.events shows.0.0.taken).0 c.if-not-idle.false in
    let next = asked_is g.C.ControlLoop.reconciler g.C.ControlLoop.phase g.C.ControlLoop.is_waiting z reconcilers k c.args.self.now xs c.args.number x _ there c.in_ok-request.ensures.asked shows in (
      ap (λ ph. is_idle ph && is_meant c.args.meant (asks (reconcilers c.args.number) (k.phases c.args.number))) idle ∙ ap (is_meant c.args.meant) (sym next) ∙ sym c.is_meant-is.ensures,
      peeked_shows g.C.ControlLoop.reconciler g.C.ControlLoop.phase g.C.ControlLoop.is_waiting z reconcilers k c.args.self.now xs c.args.number x c.next.new.self there c.next.ensures.reconciler c.next.ensures.phase c.in_ok-request.ensures.waiting shows,
    )

pub returns-in_err-request-clause-stays : goal.returns-in_err-request-clause-stays
returns-in_err-request-clause-stays g c =
    let xs = c.args.controllers.now in
    let x = slice_index_or xs c.args.number c.index-controllers-number.result in
    at_err c.from_residual.result _ (stay_at g.C.ControlLoop.reconciler g.C.ControlLoop.phase xs c.args.number x c.next.new.self (get_at xs c.args.number c.index-controllers-number.result c.requires.there)
    c.next.ensures.reconciler c.next.ensures.phase)

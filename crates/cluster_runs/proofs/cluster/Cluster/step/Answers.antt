use Rattle.std.proofs.Common.{◌<◌, length, refl, subst, sym, true, rules}
use Rattle.history.proofs.Pieces.{on_ok_by}
use Rattle.interleavings.specs.declared.event.Event.TheVariants as event
use Rattle.cluster_runs.specs.declared.event.ClusterEvent.TheVariants.{Step}
use Rattle.cluster_runs.specs.Cluster.{is_used, with_step}
use Rattle.cluster_runs.specs.Shown.{Happens}
use Rattle.cluster_runs.proofs.Showing.{cluster_few, cluster_more, gone_shows, went_applies, went_shows}
use Rattle.cluster_runs.proofs.cluster.Cluster.step.Goals as goal

pub returns-in-Raise : goal.returns-in-Raise
returns-in-Raise g c = record {
  consistent = search rules;
  shows = went_shows g.C.ControlLoop.reconciler g.C.ControlLoop.phase g.C.ControlLoop.is_waiting c.forward_quietly.result event.Raise _ (λ k. true) c.args.self.now c.forward_quietly.new.self c.args.controllers.now c.in-Raise.is refl (λ z reconcilers k. refl)
      (on_ok_by _ _ c.forward_quietly.result (λ hands z count k is. cluster_more z count k c.args.self.now c.forward_quietly.new.self event.Raise is hands tt) c.forward_quietly.ensures.hands);
  stays = search rules;
  too_many = λ failed z reconcilers k shows.
      absurd (cluster_few z (length c.args.controllers.now) k c.args.self.now event.Raise shows.0 tt (c.forward_quietly.ensures.too_many failed z k.events shows.0.0.taken));
}

pub returns-in-Check : goal.returns-in-Check
returns-in-Check g c =
    let said = c.forward_if_known.ensures in
    went_applies g.C.ControlLoop.reconciler g.C.ControlLoop.phase g.C.ControlLoop.is_waiting c.forward_if_known.result _ _ (λ k. is_used k c.in-Check.caller) c.args.self.now c.forward_if_known.new.self c.args.controllers.now c.in-Check.is refl (λ z reconcilers k. refl)
    said.present said.follows said.shows said.too_many said.reasons

pub returns-in-Reserve : goal.returns-in-Reserve
returns-in-Reserve g c =
    let said = c.forward_if_known-in-Reserve.ensures in
    went_applies g.C.ControlLoop.reconciler g.C.ControlLoop.phase g.C.ControlLoop.is_waiting c.forward_if_known-in-Reserve.result _ _ (λ k. is_used k c.in-Reserve.caller) c.args.self.now c.forward_if_known-in-Reserve.new.self c.args.controllers.now c.in-Reserve.is refl (λ z reconcilers k. refl)
    said.present said.follows said.shows said.too_many said.reasons

pub returns-in-Publish : goal.returns-in-Publish
returns-in-Publish g c =
    let said = c.forward_if_known-in-Publish.ensures in
    went_applies g.C.ControlLoop.reconciler g.C.ControlLoop.phase g.C.ControlLoop.is_waiting c.forward_if_known-in-Publish.result _ _ (λ k. is_used k c.in-Publish.caller) c.args.self.now c.forward_if_known-in-Publish.new.self c.args.controllers.now c.in-Publish.is refl (λ z reconcilers k. refl)
    said.present said.follows said.shows said.too_many said.reasons

pub returns-in-Read : goal.returns-in-Read
returns-in-Read g c =
    let said = c.forward_if_known-in-Read.ensures in
    went_applies g.C.ControlLoop.reconciler g.C.ControlLoop.phase g.C.ControlLoop.is_waiting c.forward_if_known-in-Read.result _ _ (λ k. is_used k c.in-Read.caller) c.args.self.now c.forward_if_known-in-Read.new.self c.args.controllers.now c.in-Read.is refl (λ z reconcilers k. refl)
    said.present said.follows said.shows said.too_many said.reasons

pub returns-in-ReadAt : goal.returns-in-ReadAt
returns-in-ReadAt g c =
    let said = c.forward_if_known-in-ReadAt.ensures in
    went_applies g.C.ControlLoop.reconciler g.C.ControlLoop.phase g.C.ControlLoop.is_waiting c.forward_if_known-in-ReadAt.result _ _ (λ k. is_used k c.in-ReadAt.caller) c.args.self.now c.forward_if_known-in-ReadAt.new.self c.args.controllers.now c.in-ReadAt.is refl (λ z reconcilers k. refl)
    said.present said.follows said.shows said.too_many said.reasons

pub returns-in-Compact : goal.returns-in-Compact
returns-in-Compact g c =
    let said = c.forward_if_known-in-Compact.ensures in
    went_applies g.C.ControlLoop.reconciler g.C.ControlLoop.phase g.C.ControlLoop.is_waiting c.forward_if_known-in-Compact.result _ _ (λ k. is_used k c.in-Compact.caller) c.args.self.now c.forward_if_known-in-Compact.new.self c.args.controllers.now c.in-Compact.is refl (λ z reconcilers k. refl)
    said.present said.follows said.shows said.too_many said.reasons

pub returns-in-Part : goal.returns-in-Part
returns-in-Part g c =
    let said = c.forward_if_known-in-Part.ensures in
    went_applies g.C.ControlLoop.reconciler g.C.ControlLoop.phase g.C.ControlLoop.is_waiting c.forward_if_known-in-Part.result _ _ (λ k. is_used k c.in-Part.caller) c.args.self.now c.forward_if_known-in-Part.new.self c.args.controllers.now c.in-Part.is refl (λ z reconcilers k. refl)
    said.present said.follows said.shows said.too_many said.reasons

pub returns-in-Crash : goal.returns-in-Crash
returns-in-Crash g c = record {
  consistent = search rules;
  shows = on_ok_by _ _ c.crash_outside.result (λ becomes.
      subst (λ e. Happens g.C.ControlLoop.reconciler g.C.ControlLoop.phase g.C.ControlLoop.is_waiting (Step e) c.args.self.now c.crash_outside.new.self c.args.controllers.now c.args.controllers.now) (sym c.in-Crash.is)
      (gone_shows g.C.ControlLoop.reconciler g.C.ControlLoop.phase g.C.ControlLoop.is_waiting _ c.args.self.now c.crash_outside.new.self c.args.controllers.now becomes)) c.crash_outside.ensures.shows;
  stays = search rules;
  too_many = λ failed z reconcilers k shows.
      subst (λ e. 4096 < length (with_step z reconcilers k e).used) (sym c.in-Crash.is) (c.crash_outside.ensures.too_many failed z (length c.args.controllers.now) k shows.0);
}

use Rattle.std.proofs.Common.{◌<◌, ◌++◌, ◌∷◌, [], ◌∙◌, refl, subst, sym}
use Rattle.interleavings.specs.declared.event.Event.TheVariants as event
use Rattle.history.specs.Named.{callers}
use Rattle.history.proofs.Pieces.{on_ok_by}
use Rattle.cluster_runs.specs.Shown.{Hands}
use Rattle.cluster_runs.specs.declared.cluster.Cluster.{Cluster as Program}
use Rattle.cluster_runs.proofs.Showing.{no_incarnation, outside_few, outside_more, used_same_events}
use Rattle.cluster_runs.proofs.cluster.Cluster.call_outside.Goals as goal

pub returns-clause-shows : goal.returns-clause-shows
returns-clause-shows c =
    let middle : Program = record { replay = c.args.self.now.replay; callers = c.admit.new.self; events = c.args.self.now.events } in
    on_ok_by _ _ c.forward_quietly.result (λ hands z count k is.
    let nobody = no_incarnation _ (sym (c.is_controllers.ensures count k is.1) ∙ c.if-is_controllers.false) in
    outside_more z count k c.args.caller c.args.request.now c.args.self.now middle c.forward_quietly.new.self is refl refl (c.in_ok-admit.ensures.callers count k is.1 nobody) nobody
    (subst (λ r. Hands (event.Call c.args.caller r) middle c.forward_quietly.new.self) c.in_ok-request.ensures.cases hands)) c.forward_quietly.ensures.hands

pub returns-clause-too_many : goal.returns-clause-too_many
returns-clause-too_many c = λ failed z count k is.
    let middle : Program = record { replay = c.args.self.now.replay; callers = c.admit.new.self; events = c.args.self.now.events } in
    let nobody = no_incarnation _ (sym (c.is_controllers.ensures count k is.1) ∙ c.if-is_controllers.false) in
    absurd (outside_few z count k c.args.caller c.in_ok-request.request c.args.self.now middle is refl refl (c.in_ok-admit.ensures.callers count k is.1 nobody)
    (subst (λ l. 4096 < callers (l ++ event.Call c.args.caller c.in_ok-request.request ∷ [])) (sym (used_same_events z count k c.args.caller c.in_ok-request.request))
    (c.forward_quietly.ensures.too_many failed z k.events is.0.taken)))

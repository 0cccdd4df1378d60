use Rattle.std.proofs.Common.{◌∙◌, None, ap, length, rules, sym}
use Rattle.std.specs.Prelude.{if◌then◌else◌}
use Rattle.interleavings.specs.declared.event.Event.TheVariants.{Reply}
use Rattle.cluster_runs.specs.Cluster.{delivered}
use Rattle.cluster_runs.proofs.Showing.{cluster_few, replied_shows, delivered_is}
use Rattle.cluster_runs.proofs.cluster.Cluster.deliver_reply.Goals as goal

pub returns-then-not-is_used-clause-delivered : goal.returns-then-not-is_used-clause-delivered
returns-then-not-is_used-clause-delivered g c = λ z reconcilers k shows.
    let count = length c.args.controllers.now in
    ap (λ b. if b then delivered z k.events (Reply c.args.caller) else None) (sym (c.is_used.ensures.used count k shows.0.1) ∙ c.if-not-is_used.true)

pub returns-in-Ok-clause-applies : goal.returns-in-Ok-clause-applies
returns-in-Ok-clause-applies g c = record {
  consistent = search rules;
  shows = λ z reconcilers k shows.
      let count = length c.args.controllers.now in
      replied_shows g.C.ControlLoop.reconciler g.C.ControlLoop.phase g.C.ControlLoop.is_waiting z reconcilers k c.args.self.now c.forward.new.self c.args.controllers.now c.on_reply-heard.new.controllers
      c.args.caller c.controller_at-controller.result c.in_ok-delivered.delivered (c.controller_at-controller.ensures.controller count k shows.0.1)
      (sym (c.is_used.ensures.used count k shows.0.1) ∙ c.if-not-is_used.false)
      (c.in_ok-delivered.ensures.delivered z k.events shows.0.0.taken) c.in_ok-delivered.ensures.hands c.in-Ok.ensures.hears shows;
  stays = search rules;
  too_many = search rules;
}

pub returns-in-Ok-clause-delivered : goal.returns-in-Ok-clause-delivered
returns-in-Ok-clause-delivered g c = λ z reconcilers k shows.
    let count = length c.args.controllers.now in
    ap (λ b. if b then delivered z k.events (Reply c.args.caller) else None) (sym (c.is_used.ensures.used count k shows.0.1) ∙ c.if-not-is_used.false)
    ∙ delivered_is g.C.ControlLoop.reconciler g.C.ControlLoop.phase g.C.ControlLoop.is_waiting z k.events c.args.caller c.in_ok-delivered.delivered (c.in_ok-delivered.ensures.delivered z k.events shows.0.0.taken)

pub returns-in_err-delivered-clause-applies : goal.returns-in_err-delivered-clause-applies
returns-in_err-delivered-clause-applies g c = record {
  consistent = search rules;
  shows = search rules;
  stays = search rules;
  too_many = λ failed z reconcilers k shows.
      let count = length c.args.controllers.now in
      absurd (cluster_few z count k c.args.self.now (Reply c.args.caller) shows.0 (sym (c.is_used.ensures.used count k shows.0.1) ∙ c.if-not-is_used.false)
      (c.in_err-delivered.ensures.too_many (search (rules, failed)) z k.events shows.0.0.taken));
}

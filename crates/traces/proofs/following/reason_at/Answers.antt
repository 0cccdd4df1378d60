use Rattle.std.proofs.Common.{ap, ◌∙◌}
use Rattle.rounds.specs.Phase.{takes}
use Rattle.controllers.specs.Cluster.{reconciler_for}
use Rattle.controllers.specs.Controller.{phase_of}
use Rattle.traces.proofs.Passing.{replaced}
use Rattle.traces.proofs.following.reason_at.Goals as goal

pub returns-clause-heard : goal.returns-clause-heard
returns-clause-heard c =
    let old = c.in_ok-controller in
    let new = c.in_ok-reason in
    let reply = c.args.reply.now in
    record {
      now = c.on_reply.new.controller;
      is_of = record {
        reconciler = new.ensures.reconciler ∙ old.ensures.is_of.reconciler;
        refusals = new.ensures.refusals ∙ old.ensures.is_of.refusals;
        refusal = new.ensures.refusal;
      };
      phase =
          new.ensures.phase ∙ ap (λ r. takes r (phase_of old.controller) reply) old.ensures.is_of.reconciler
          ∙ ap (λ p. takes (reconciler_for c.args.spec.now) p reply) old.ensures.phase;
      entries = replaced c.args.standing.now c.taken_out.new.standing c.insert.new.self c.args.caller c.on_reply.new.controller old.ensures.rest c.in_ok-insert.ensures.updates;
    }

use Rattle.std.proofs.Common.{◌≡◌, ◌∙◌, ap, refl, sym}
use Rattle.std.proofs.lemmas.Result.{on_ok_weaker}
use Rattle.requests.specs.declared.reply.Reply.TheVariants.{Listed}
use Rattle.controllers.specs.Controller.{reconciler_of, refusals_of}
use Rattle.controllers.proofs.Heard.{plan_heard, plan_unheard}
use Rattle.controllers.proofs.round.on_claims.Goals as goal

pub returns-in-None : goal.returns-in-None
unfolding reconciler_of refusals_of
returns-in-None c =
    rw c.set_progress.ensures
    (record {
      itself = record { reconciler = refl; refusals = refl; waits = refl };
      taken = plan_unheard c.args.controller.now c.args.reply.now c.requires c.in-None.ensures.none;
      memory = tt;
    })

pub returns-in-Some : goal.returns-in-Some
returns-in-Some c =
    let claims : c.args.reply.now ≡ Listed c.as_slice.result.now c.in-Some.field-0-1 = c.in-Some.ensures.some ∙ ap (λ l. Listed l c.in-Some.field-0-1) (sym c.as_slice.ensures) in
    record {
      itself = c.start_plan.ensures.itself;
      taken = on_ok_weaker c.start_plan.result (λ starts. plan_heard _ _ c.as_slice.result.now c.in-Some.field-0-1 _ c.requires claims (starts _ c.plan_with-found.ensures)) c.start_plan.ensures.starts;
      memory = c.start_plan.ensures.memory;
    }

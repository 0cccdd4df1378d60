use Rattle.std.proofs.Common.{◌≡◌, ap, ◌∙◌}
use Rattle.std.proofs.lemmas.Result.{IfOk-weaker}
use Rattle.cluster_runs.specs.Ran.{owner_in}
use Rattle.traces.specs.RefusedPlans.{refused_plans}
use Rattle.commands.specs.Clustering.{trace_beside}
use Rattle.commands.specs.Roles.{clients_of}
use Rattle.commands.proofs.cluster.trace_of_run.Goals as goal

pub returns-clause-traced : goal.returns-clause-traced
returns-clause-traced c =
    let script = c.args.script.now in
    let found = c.args.found.now.run in
    let ends = c.args.found.now.ends.items in
    let owner = owner_in found.owners in
    let clients : c.in_ok-clients.clients.keys ≡ clients_of script.turns.items = c.in_ok-clients.ensures ∙ ap clients_of c.as_slice.ensures.value in
    let plans : c.as_slice-3.result.now ≡ refused_plans owner script.spec.sets.items found.run.trace.items.items =
    c.as_slice-3.ensures.value ∙ c.in_ok-plans.ensures
    ∙ ap (λ sets. refused_plans owner sets c.as_slice-items.result.now) c.as_slice-2.ensures.value
    ∙ ap (refused_plans owner script.spec.sets.items) c.as_slice-items.ensures.value in
    IfOk-weaker c.trace_beside-text.result _ _
    (λ text is. is
    ∙ ap (λ names. trace_beside script.spec names found ends c.as_slice-3.result.now) clients
    ∙ ap (trace_beside script.spec (clients_of script.turns.items) found ends) plans)
    c.trace_beside-text.ensures.traced

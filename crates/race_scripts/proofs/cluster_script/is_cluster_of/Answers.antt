use Rattle.std.proofs.lemmas.Result.{IfOk-weaker}
use Rattle.race_scripts.proofs.cluster_script.is_cluster_of.Goals as goal

pub returns : goal.returns
returns c =
    IfOk-weaker c.leads_to-leads.result _ _ (λ leads h. λ is. record { script = c.in_ok-script.script; read = c.in_ok-script.ensures; leads = h is }) c.leads_to-leads.ensures

use Rattle.std.proofs.Common.{ℕ, List, subst}
use Rattle.race_scripts.specs.Leading.{ShowsStore}
use Rattle.race_scripts.proofs.script.cluster_text.Goals as goal

pub returns-then-branch : goal.returns-then-branch
returns-then-branch c =
    subst (λ (text : List ℕ). ShowsStore c.args.asked.now c.args.end.now text) c.as_slice-4.ensures.value (c.in_ok-is_cluster_of.ensures c.if-branch.true)

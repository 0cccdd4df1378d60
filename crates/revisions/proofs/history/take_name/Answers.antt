use Rattle.std.proofs.Common.{sym, ◌∙◌}
use Rattle.set_views.specs.Pod.{pod_parts}
use Rattle.set_views.specs.Set.{set_parts}
use Rattle.set_views.specs.Predicates.{owns_pod}
use Rattle.revisions.proofs.Histories.{name_put}
use Rattle.revisions.proofs.history.take_name.Goals as goal

pub returns-in_ok-insert : goal.returns-in_ok-insert
returns-in_ok-insert c = λ q.
    name_put (owns_pod (set_parts c.args.set.now) (pod_parts c.args.pod.now)) c.args.pod.now.revision c.in-Some.name q c.args.names.now.keys c.insert.new.self.keys
    (sym c.is_owned_by.ensures ∙ c.if-is_owned_by.true) c.in-Some.is c.in_ok-insert.ensures.keys

use Rattle.std.proofs.Common.{◌∙◌, sym}
use Rattle.history.proofs.Pieces.{on_ok_by}
use Rattle.cluster_runs.proofs.Showing.{cluster_few, cluster_more, if_used, used_named}
use Rattle.cluster_runs.proofs.cluster.Cluster.forward_if_known.Goals as goal

pub returns-then-is_used-clause-shows : goal.returns-then-is_used-clause-shows
returns-then-is_used-clause-shows c =
    on_ok_by _ _ c.forward_quietly.result (λ hands z count k is.
    let used = sym (c.is_used.ensures.used count k is.1) ∙ c.if-is_used.true in
    if_used z count k c.args.event c.forward_quietly.new.self _ used
    (cluster_more z count k c.args.self.now c.forward_quietly.new.self c.args.event is hands (used_named k c.args.event c.args.caller c.requires.named used))) c.forward_quietly.ensures.hands

pub returns-then-is_used-clause-too_many : goal.returns-then-is_used-clause-too_many
returns-then-is_used-clause-too_many c = λ failed z count k is.
    let used = sym (c.is_used.ensures.used count k is.1) ∙ c.if-is_used.true in
    absurd (cluster_few z count k c.args.self.now c.args.event is (used_named k c.args.event c.args.caller c.requires.named used)
    (c.forward_quietly.ensures.too_many failed z k.events is.0.taken))

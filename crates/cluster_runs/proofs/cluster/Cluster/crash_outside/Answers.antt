use Rattle.std.proofs.Common.{◌<◌, ◌&&◌, ◌∙◌, ap, length, subst, sym}
use Rattle.std.specs.Prelude.{is_some}
use Rattle.interleavings.specs.declared.event.Event.TheVariants.{Crash}
use Rattle.history.proofs.Pieces.{on_ok_by}
use Rattle.cluster_runs.specs.Cluster.{controller_at, is_nobody, is_used}
use Rattle.cluster_runs.proofs.Showing.{gone_absent, gone_more, hand_used}
use Rattle.cluster_runs.proofs.cluster.Cluster.crash_outside.Goals as goal

pub returns-clause-shows : goal.returns-clause-shows
returns-clause-shows c =
    on_ok_by _ _ c.forward_if_known.result (λ becomes z count k is.
    gone_more z count k c.args.caller c.forward_if_known.new.self (ap is_some (sym (c.controller_at.ensures.controller count k is.1)) ∙ sym c.if-is_some.ensures) (becomes z count k is)) c.forward_if_known.ensures.shows

pub returns-clause-too_many : goal.returns-clause-too_many
returns-clause-too_many c = λ failed z count k is.
    let n = c.args.caller in
    subst (λ u. 4096 < length u) (hand_used (is_used k n) k (Crash n) ∙ sym (hand_used (is_used k n && is_nobody (controller_at k n)) k (Crash n))) (c.forward_if_known.ensures.too_many failed z count k is)

pub returns-then-is_some-clause-shows : goal.returns-then-is_some-clause-shows
returns-then-is_some-clause-shows c = λ z count k is.
    gone_absent z count k c.args.caller c.args.self.now (ap is_some (sym (c.controller_at.ensures.controller count k is.1)) ∙ sym c.if-is_some.ensures) is

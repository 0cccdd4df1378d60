use Rattle.std.proofs.Common.{not, map, filter, ap, ◌∙◌, arith}
use Rattle.set_views.specs.Pod.{pod_parts}
use Rattle.set_views.specs.Set.{set_parts}
use Rattle.revisions.specs.History.{is_live}
use Rattle.revisions.specs.Listing.{has_name}
use Rattle.revisions.specs.Plan.{objects_of}
use Rattle.revisions.proofs.Histories.{expired_is}
use Rattle.revisions.proofs.history.expired_revisions.Goals as goal

pub returns : goal.returns
returns c =
    expired_is (set_parts c.args.set.now) (map pod_parts c.args.pods.now) c.args.current.now c.args.revisions.now.update.object.now.key.name c.in_ok-live.live.keys
    c.args.revisions.now.owned.items c.in_ok-history.history.items c.truncate.new.self.items c.saturating_sub.result
    (λ q. c.in_ok-live.ensures q ∙ ap (λ s. is_live (set_parts c.args.set.now) (map pod_parts c.args.pods.now) c.args.current.now s q) c.args.revisions.now.update.named)
    (c.in_ok-history.ensures ∙ ap (λ l. filter (λ o. not (has_name o.key.name c.in_ok-live.live.keys)) (objects_of l)) c.deref.ensures.value)
    c.truncate.ensures.items (omega (arith, c.saturating_sub.ensures, c.len.ensures, c.in_ok-history.history.ok))

use Rattle.std.proofs.Common.{◌≡◌, ◌&&◌, not, true, false, refl, rules}
use Rattle.race_log.proofs.LivePods.{created}
use Rattle.race_log.proofs.twice.LivePods.on_create.Goals.{else-is_pod-via-then-is_pod+else-not-is_new, else-is_pod-via-else-is_pod}
use Rattle.race_log.proofs.twice.LivePods.on_create.Goals as goal

pub returns-then-not-is_new-clause-known : goal.returns-then-not-is_new-clause-known
returns-then-not-is_new-clause-known c = λ earlier known.
    let both : (c.is_pod.result && not c.in_ok-is_new.is_new) ≡ true = search rules in
    created c.args.self.now _ c.args.object.now c.in_ok-clone.field-0 c.in_ok-is_new.is_new c.is_pod.result true earlier
    (search rules) (c.in_ok-is_new.ensures.updates.0) c.in_ok-is_new.ensures.added (search rules) both refl known

pub returns-else-is_pod-clause-known : goal.returns-else-is_pod-clause-known
returns-else-is_pod-clause-known c = λ earlier known.
    let both : (c.is_pod.result && not c.in_ok-is_new.is_new) ≡ false =
    elim c.else-is_pod.branch [
      | else-is_pod-via-then-is_pod+else-not-is_new w ↦ search (rules, w.if-is_pod, w.if-not-is_new)
      | else-is_pod-via-else-is_pod w ↦ search (rules, w.if-is_pod)
    ] in
    created c.args.self.now _ c.args.object.now c.in_ok-clone.field-0 c.in_ok-is_new.is_new c.is_pod.result false earlier
    (search rules) (c.in_ok-is_new.ensures.updates.0) c.in_ok-is_new.ensures.added (search rules) both refl known

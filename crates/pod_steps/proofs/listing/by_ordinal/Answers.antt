use Rattle.std.proofs.Common.{[], ◌∷◌, ◌++◌, sym, ap, ◌∙◌, append_assoc}
use Rattle.std.proofs.lemmas.List.{append-nil}
use Rattle.std.specs.Iterator.Adapters.{rev_source}
use Rattle.std.specs.Slice.Iter.{iter_rest}
use Rattle.set_views.specs.Pod.{pod_parts}
use Rattle.set_views.specs.Set.{set_parts}
use Rattle.pod_steps.specs.Listed.{by_ordinal, with_pod}
use Rattle.pod_steps.proofs.listing.by_ordinal.Goals as goal

pub loop-pod-init : goal.loop-pod-init
unfolding by_ordinal
loop-pod-init c = (
  [],
  append-nil _ ∙ (ap (λ s. iter_rest (rev_source s)) c.into_iter-pod-iterator.ensures.into_iter_gives ∙ (ap iter_rest c.rev-pod-items.ensures.source ∙ c.iter.ensures.rest)),
  c.new-pods.ensures.empty,
)

pub loop-pod-preserved : goal.loop-pod-preserved
unfolding by_ordinal
loop-pod-preserved c = (
  c.in-Some.pod.now ∷ c.loop-pod.invariant.0,
  sym (append_assoc (iter_rest (rev_source c.next.new.self)) (c.in-Some.pod.now ∷ []) c.loop-pod.invariant.0) ∙ (ap (λ l. l ++ c.loop-pod.invariant.0) (sym c.in-Some.ensures.steps) ∙ c.loop-pod.invariant.1),
  c.in_ok-put_pod.ensures ∙ ap (λ es. with_pod (set_parts c.args.set.now) c.args.update.now c.args.current.now es (pod_parts c.in-Some.pod.now)) c.loop-pod.invariant.2,
)

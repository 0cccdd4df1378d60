use Rattle.std.proofs.Common.{[], ◌∷◌, ◌++◌, reverse, sym, ap, ◌∙◌}
use Rattle.set_views.specs.Set.{set_parts}
use Rattle.std.proofs.lemmas.List.{reverse-append}
use Rattle.std.specs.Iterator.Adapters.{rev_source}
use Rattle.std.specs.List.{flat_map}
use Rattle.pod_steps.specs.Step.{truncated}
use Rattle.pod_steps.specs.FullSteps.{condemned_steps}
use Rattle.pod_steps.proofs.Truncation.{adds_none, coming_more}
use Rattle.pod_steps.proofs.parallel.delete_all_condemned.Goals as goal

pub loop-ordinal-init : goal.loop-ordinal-init
loop-ordinal-init c =
    ap (λ es. truncated (c.args.steps.now.list.items ++ flat_map (condemned_steps (set_parts c.args.set.now)) (reverse es)))
    (ap rev_source c.into_iter-ordinal-iterator.ensures.into_iter_gives ∙ (c.rev-ordinal-items.ensures.source ∙ c.iter.ensures.rest))

pub loop-ordinal-preserved : goal.loop-ordinal-preserved
loop-ordinal-preserved c =
    coming_more _ _ _ _ c.in_ok-delete_if_condemned.ensures
    ∙ (ap (λ es. truncated (c.loop-ordinal.steps.list.items ++ flat_map (condemned_steps (set_parts c.args.set.now)) es))
    (sym (ap reverse c.in-Some.ensures.steps ∙ reverse-append (rev_source c.next.new.self) ((c.in-Some.ordinal.now, c.in-Some.pod.now) ∷ [])))
    ∙ c.loop-ordinal.invariant)

pub returns : goal.returns
returns c =
    adds_none c.loop-ordinal.steps.list.items c.loop-ordinal.steps.within
    ∙ (ap (λ es. truncated (c.loop-ordinal.steps.list.items ++ flat_map (condemned_steps (set_parts c.args.set.now)) (reverse es))) (sym c.in-None.ensures.steps.0)
    ∙ c.loop-ordinal.invariant)

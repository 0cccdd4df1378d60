use Rattle.std.proofs.Common.{◌≡◌, ◌+◌, ◌<◌, ◌∷◌, [], ◌++◌, length, take, sym, ap, ◌∙◌, arith}
use Rattle.std.specs.Prelude.{◌||◌, ◌&&◌, bytes_eq}
use Rattle.std.proofs.lemmas.List.{take_more}
use Rattle.objects.specs.declared.kind.Kind.TheVariants.{ControllerRevision}
use Rattle.set_views.specs.Firsts.{is_held}
use Rattle.set_views.specs.Set.{set_parts}
use Rattle.set_views.specs.Predicates.{in_namespace}
use Rattle.set_views.proofs.Firsts.{held_more}
use Rattle.revisions.specs.Revision.{listed, owned_among}
use Rattle.revisions.proofs.Firsts.{owned_step}
use Rattle.revisions.proofs.listed.gather.Goals as goal

pub loop-object-preserved : goal.loop-object-preserved
loop-object-preserved c =
    let set = set_parts c.args.set.now in
    let done = take c.loop-object.object-index c.args.objects.now in
    let o = c.object-item.result in
    let inside : c.loop-object.object-index < length c.args.objects.now = omega arith in
    let more : take (c.loop-object.object-index + 1) c.args.objects.now ≡ done ++ o ∷ [] =
    take_more c.args.objects.now c.loop-object.object-index o inside ∙ ap (λ p. done ++ p ∷ []) (sym c.object-item.is) in (
      λ q. c.in_ok-take.ensures.names q ∙ (ap (λ b. b || (in_namespace set ControllerRevision o && bytes_eq q o.key.name)) (c.loop-object.invariant.0 q)
          ∙ (sym (held_more (in_namespace set ControllerRevision) done o q) ∙ ap (λ os. is_held (listed set os) q) (sym more))),
      owned_step set done o _ _ _ c.in_ok-take.ensures.owned (c.loop-object.invariant.0 o.key.name) c.loop-object.invariant.1 ∙ ap (owned_among set) (sym more),
    )

use Rattle.std.proofs.Common.{[], ◌∷◌, ◌++◌, Some, cond, sym, ap, ◌∙◌, append_assoc}
use Rattle.std.specs.Prelude.{◌&&◌, bytes_eq, option_map}
use Rattle.std.specs.BTreeMap.{is_at}
use Rattle.std.specs.Cmp.Lexicographic.{slice_cmp}
use Rattle.std.specs.Map.{lookup}
use Rattle.std.specs.Ordering.{nat_cmp}
use Rattle.std.proofs.lemmas.List.{append-nil}
use Rattle.std.specs.Iterator.Adapters.{rev_source}
use Rattle.std.specs.Slice.Iter.{iter_rest}
use Rattle.objects.specs.declared.kind.Kind.TheVariants.{PersistentVolumeClaim}
use Rattle.set_views.specs.Set.{set_parts}
use Rattle.set_views.specs.Predicates.{in_namespace}
use Rattle.claims.proofs.listed.by_name.Goals as goal

pub loop-object-init : goal.loop-object-init
loop-object-init c = (
  [],
  append-nil _ ∙ (ap (λ s. iter_rest (rev_source s)) c.into_iter-object-iterator.ensures.into_iter_gives ∙ (ap iter_rest c.rev-object-items.ensures.source ∙ c.iter.ensures.rest)),
  λ name. ap (λ es. option_map (λ o. o.now) (lookup (is_at (λ k. slice_cmp nat_cmp name k.now)) es)) c.new-claims.ensures.empty,
)

pub loop-object-preserved : goal.loop-object-preserved
loop-object-preserved c = (
  c.in-Some.object.now ∷ c.loop-object.invariant.0,
  sym (append_assoc (iter_rest (rev_source c.next.new.self)) (c.in-Some.object.now ∷ []) c.loop-object.invariant.0) ∙ (ap (λ l. l ++ c.loop-object.invariant.0) (sym c.in-Some.ensures.steps) ∙ c.loop-object.invariant.1),
  λ name. c.in_ok-put_claim.ensures name
      ∙ ap (λ found. cond (in_namespace (set_parts c.args.set.now) PersistentVolumeClaim c.in-Some.object.now && bytes_eq c.in-Some.object.now.key.name name) (Some c.in-Some.object.now) found) (c.loop-object.invariant.2 name),
)

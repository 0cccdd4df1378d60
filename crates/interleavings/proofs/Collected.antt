-- The reply to a read, shard by shard, is what was there.
use Rattle.std.proofs.Common.{◌≡◌, ℕ, Bool, true, false, cond, List, Option, Some, None, refl, sym, ap, ◌∙◌}
use Rattle.std.specs.FinMap as map
use Rattle.std.specs.FinMap.{same_map}
use Rattle.objects.specs.declared.key.Key.{Key}
use Rattle.objects.specs.declared.kind.Kind.{Kind}
use Rattle.objects.specs.KeyOrder.{exact_keys, key_cmp_total}
use Rattle.requests.specs.declared.request.Request.{Request}
use Rattle.requests.specs.declared.reply.Reply.{Reply}
use Rattle.requests.specs.declared.reply.Reply.TheVariants.{Listed}
use Rattle.requests.specs.declared.reply.Reason.{Reason}
use Rattle.plain_store.specs.Route.{Route, compacts, gets, lists, lists_at, route, writes}
use Rattle.plain_store.specs.Store.{Objects, Store, collection, compacted_to, denied, found, is_of, listed_at, routed, step}
use Rattle.interleavings.specs.Log.{Log, state_at, value}
use Rattle.interleavings.specs.World.{Size}
use Rattle.interleavings.specs.Step.{only, reads}
use Rattle.interleavings.proofs.Basics.{key_self}
use Rattle.interleavings.proofs.Values.{get_retained, get_state}
use Rattle.interleavings.proofs.Plainly.{step_routed}

module _ (z : Size) (log : Log) (n : ℕ) where
  same_retained : (got : Objects) (want : Key → Bool) → ((k : Key) → want k ≡ true → map.get got k ≡ value log n k) → map.retain_keys (state_at log n) want ≡ map.retain_keys got want
  same_retained got want h = same_map key_cmp_total exact_keys (map.retain_keys (state_at log n) want) (map.retain_keys got want) (λ k.
      get_retained (state_at log n) want k ∙ at k (want k) refl ∙ sym (get_retained got want k))
    where
      at : (k : Key) (v : Bool) → want k ≡ v → cond (want k) (map.get (state_at log n) k) None ≡ cond (want k) (map.get got k) None
      at k true e = ap (λ o. cond (want k) o None) (get_state log n k ∙ sym (h k e))
      at k false e = ap (λ v. cond v (map.get (state_at log n) k) None) e ∙ sym (ap (λ v. cond v (map.get got k) None) e)

  same_collection : (got : Objects) (kind : Kind) (namespace : List ℕ) → ((k : Key) → is_of kind namespace k ≡ true → map.get got k ≡ value log n k) → collection (state_at log n) kind namespace ≡ collection got kind namespace
  same_collection got kind namespace h = ap map.values (same_retained got (is_of kind namespace) h)

  same_routed : (q : Request) (got : Objects) (ro : Route) → ((k : Key) → ro ≡ writes k → ⊥) → ((k : Key) → reads ro k ≡ true → map.get got k ≡ value log n k) → (routed (only z n (state_at log n)) q ro).1 ≡ (routed (only z n got) q ro).1
  same_routed q got (gets k) reads_only h = ap found (get_state log n k ∙ sym (h k (key_self k)))
  same_routed q got (writes k) reads_only h = absurd (reads_only k refl)
  same_routed q got (lists kind namespace) reads_only h = ap (λ os. Listed os n) (same_collection got kind namespace h)
  same_routed q got (lists_at kind namespace i) reads_only h = ap (λ os. listed_at i os (denied n n i)) (same_collection got kind namespace h)
  same_routed q got (compacts i) reads_only h = go (denied n n i)
    where
      go : (o : Option Reason) → (compacted_to (only z n (state_at log n)) i o).1 ≡ (compacted_to (only z n got) i o).1
      go (Some reason) = refl
      go None = refl

  pub same_answer : (q : Request) (got : Objects) (ro : Route) → route q ≡ ro → ((k : Key) → route q ≡ writes k → ⊥) → ((k : Key) → reads (route q) k ≡ true → map.get got k ≡ value log n k) → (step (only z n (state_at log n)) q).1 ≡ (step (only z n got) q).1
  same_answer q got ro e reads_only h =
      ap (λ (x : Store × Reply). x.1) (step_routed (only z n (state_at log n)) q ro e)
      ∙ same_routed q got ro (λ k x. reads_only k (e ∙ x)) (λ k want. h k (ap (λ ro. reads ro k) e ∙ want))
      ∙ sym (ap (λ (x : Store × Reply). x.1) (step_routed (only z n got) q ro e))

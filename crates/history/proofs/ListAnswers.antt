-- The reply to a list that is read of all shards is what was there at its number.
use Rattle.std.proofs.Common.{◌≡◌, ◌≢◌, ℕ, zero, suc, ◌<◌, ◌≤◌, ◌⊎◌, ◌==◌, false, cond, List, None, refl, sym, ap, ◌∙◌, inl, inr, arith}
use Rattle.std.specs.FinMap as map
use Rattle.objects.specs.declared.key.Key.{Key}
use Rattle.objects.specs.declared.kind.Kind.{Kind}
use Rattle.requests.specs.declared.request.Request.{Request}
use Rattle.requests.specs.declared.request.Request.TheVariants as request
use Rattle.requests.specs.declared.reply.Reply.TheVariants.{Listed}
use Rattle.plain_store.specs.Route.{lists, lists_at, route, writes}
use Rattle.plain_store.specs.Store.{Objects, collection, is_of, step}
use Rattle.versions.specs.Records as versions
use Rattle.versions.specs.Records.{Records}
use Rattle.interleavings.specs.Log.{IsFiled, Log, state_at}
use Rattle.history.specs.Mirrors.{Mirrors, found_in, read_up_to}
use Rattle.versions.specs.Gathered.{with_objects}
use Rattle.interleavings.specs.Step.{only, reads}
use Rattle.interleavings.specs.World.{Size}
use Rattle.interleavings.proofs.Basics.{Compared, same, other, compare}
use Rattle.history.proofs.MirrorReads.{list_at_reply, list_reply, listed, none_unwanted, answer_of_all_parts}

routed_now : (kind : Kind) (namespace : List ℕ) (exact : ℕ) → exact ≡ 0 → route (request.List kind namespace exact) ≡ lists kind namespace
unfolding route
routed_now kind namespace exact is = ap (λ n. cond (n == 0) (lists kind namespace) (lists_at kind namespace n)) is

routed_at : (kind : Kind) (namespace : List ℕ) (exact : ℕ) → exact ≢ 0 → route (request.List kind namespace exact) ≡ lists_at kind namespace exact
unfolding route
routed_at kind namespace exact apart = by (compare exact 0)
  where
    by : Compared exact 0 → cond (exact == 0) (lists kind namespace) (lists_at kind namespace exact) ≡ lists_at kind namespace exact
    by (same e b) = absurd (apart e)
    by (other ne b) = ap (λ c. cond c (lists kind namespace) (lists_at kind namespace exact)) b

module _ (z : Size) (log : Log) (d : ℕ) (records : ℕ → Records) (floors : ℕ → ℕ) (n : ℕ)
    (shown : (s : ℕ) → s < z.shards → Mirrors z log d s (records s) (floors s)) (from : (s : ℕ) → s < z.shards → floors s ≤ n) (filed : IsFiled log) where
  found_is : (r : Request) (kind : Kind) (namespace : List ℕ) → ((k : Key) → reads (route r) k ≡ is_of kind namespace k) → (s : ℕ) → s ≤ z.shards → found_in records n kind namespace s ≡ read_up_to z log n r s
  found_is r kind namespace wanted zero le = refl
  found_is r kind namespace wanted (suc s) le =
      ap (λ m. with_objects m (collection (versions.state_at (records s) n) kind namespace)) (found_is r kind namespace wanted s (omega arith))
      ∙ listed (shown s (omega arith)) filed n (from s (omega arith)) r (read_up_to z log n r s) kind namespace wanted

  pub list_answer : 0 < z.shards → (kind : Kind) (namespace : List ℕ) (exact : ℕ) → (exact ≡ 0) ⊎ (exact ≡ n)
      → (step (only z n (state_at log n)) (request.List kind namespace exact)).1 ≡ Listed (map.values (found_in records n kind namespace z.shards)) n
  list_answer some kind namespace exact numbered = by (compare exact 0) numbered
    where
      r : Request
      r = request.List kind namespace exact

      found : Objects
      found = read_up_to z log n r z.shards

      unwanted : (k : Key) → reads (route r) k ≡ false → map.get found k ≡ None
      unwanted k misses = none_unwanted z log n r k misses z.shards

      by : Compared exact 0 → (exact ≡ 0) ⊎ (exact ≡ n) → (step (only z n (state_at log n)) r).1 ≡ Listed (map.values (found_in records n kind namespace z.shards)) n
      by (same e b) either =
          let is = routed_now kind namespace exact e in
          answer_of_all_parts z log n r some (λ k x. let all : lists kind namespace ≡ writes k = sym is ∙ x in absurd cc)
          ∙ list_reply z n r found kind namespace is unwanted
          ∙ ap (λ m. Listed (map.values m) n) (sym (found_is r kind namespace (λ k. ap (λ ro. reads ro k) is) z.shards (omega arith)))
      by (other ne b) (inl e) = absurd (ne e)
      by (other ne b) (inr e) =
          let is = routed_at kind namespace exact ne ∙ ap (lists_at kind namespace) e in
          answer_of_all_parts z log n r some (λ k x. let all : lists_at kind namespace n ≡ writes k = sym is ∙ x in absurd cc)
          ∙ list_at_reply z n r found kind namespace is unwanted
          ∙ ap (λ m. Listed (map.values m) n) (sym (found_is r kind namespace (λ k. ap (λ ro. reads ro k) is) z.shards (omega arith)))

-- The seats of the shards, cut off one after another.
use Rattle.std.proofs.Common.{◌≡◌, ℕ, zero, suc, ◌+◌, ◌-◌, ◌<◌, List, [], ◌∷◌, ◌++◌, length, get_or, Some, None, refl, sym, ap, ◌∙◌, ⊎_elim, arith}
use Rattle.std.specs.Prelude.{All}
use mathlib.Core.Option.{some}
use lib.ListN.{get_elem?}
use Rattle.line.specs.declared.view.NotedView.{NotedView}
use Rattle.line.specs.NotedView.{first_noted, cut_off, shard_noted, IsCut}
use Rattle.line.specs.Seat.{AreShards, LineName, Seat, new_shard, new_shard_seat, shard_seat}
use Rattle.line.proofs.Logs.{at_end}

module _ {E : Type 0} where
  pub cut_more : (n : ℕ) (v w x : NotedView E) → IsCut n v w → x ≡ cut_off w → IsCut (n + 1) v x
  cut_more n v w x cut is = is ∙ ap cut_off cut ∙ ap (λ k. record v { plain = record v.plain { seats = k }; made = Some (n + 1) }) (let e : v.plain.seats - n - 1 ≡ v.plain.seats - (n + 1) = omega arith in e)

  pub seat_is : (s : Seat E) (line : LineName) (v w : NotedView E) (n : ℕ) → s.line ≡ line → s.view ≡ shard_noted w → IsCut n v w → v ≡ first_noted v.plain.capacity → s ≡ new_shard line v.plain.capacity n
  seat_is s line v w n at view cut first = λ i. record { line = at i; view = (view ∙ ap shard_noted cut) i }

  pub more_shards : (line : LineName) (capacity : ℕ) (xs : List (Seat E)) (s : Seat E) (n : ℕ) → length xs ≡ n → AreShards line capacity xs → s ≡ new_shard line capacity n → AreShards line capacity (xs ++ s ∷ [])
  more_shards line capacity xs s n long all is i x at = ⊎_elim
      (λ (t : get_elem? xs i ≡ some x). all i x t)
      (λ (t : (i ≡ length xs) × (s ≡ x)). sym t.1 ∙ (is ∙ ap (new_shard line capacity) (sym long ∙ sym t.0)))
      (at_end xs s x i at)

at_or : {A : Type 0} (xs : List A) (k : ℕ) (d : A) → k < length xs → get_elem? xs k ≡ some (get_or xs k d)
at_or [] k d h = absurd (omega arith)
at_or (x ∷ xs) zero d h = refl
at_or (x ∷ xs) (suc k) d h = at_or xs k d (omega arith)

-- none of them has drawn anything, or has a caller in it
pub all_fresh : {E : Type 0} (line : LineName) (capacity : ℕ) (xs : List (Seat E)) → AreShards line capacity xs → All (λ s. (shard_seat s ≡ new_shard_seat line) × (s.view.caller ≡ None)) xs
all_fresh line capacity xs are = λ k d l. let is = are k (get_or xs k d) (at_or xs k d l) in (ap shard_seat is, ap (λ (s : Seat _). s.view.caller) is)

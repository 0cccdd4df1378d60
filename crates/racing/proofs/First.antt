-- A controller begins by reading its set.
use Rattle.std.proofs.Common.{◌≡◌, ℕ, ◌+◌, true, false, if◌then◌else◌, refl, ap, ◌∙◌, arith}
use Rattle.requests.specs.declared.request.Request.{Request}
use Rattle.rounds.specs.Phase.{Phase, asks, reading_set}
use Rattle.rounds.specs.Reconciler.{Reconciler}
use Rattle.racing.specs.Parts.{begins, is_get}

asks_set : (c : Reconciler) → is_get (asks c reading_set) ≡ true
unfolding asks
asks_set c = refl

pub begins_first : (c : Reconciler) (phase : Phase) → phase ≡ reading_set → is_get (asks c phase) ≡ true
begins_first c phase is = ap (λ p. is_get (asks c p)) is ∙ asks_set c

pub no_begin : (r : Request) (n : ℕ) → is_get r ≡ false → n + begins r ≡ n
no_begin r n is = let e : begins r ≡ 0 = ap (λ b. if b then 1 else 0) is in omega arith

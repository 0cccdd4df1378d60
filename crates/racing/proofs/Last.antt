-- The last reply.
use Rattle.std.proofs.Common.{◌≡◌, ◌-◌, List, [], ◌∷◌, length, slice_get, Some, None, suc, refl, ap, subst, arith}
use Rattle.race_log.specs.declared.part.TimedExchange.{TimedExchange}
use Rattle.racing.specs.Parts.{last_reply}

earlier : (x y : TimedExchange) (xs : List TimedExchange) → length (x ∷ y ∷ xs) - 1 ≡ suc (length (y ∷ xs) - 1)
earlier x y xs = omega arith

pub last_is : (xs : List TimedExchange) (a : TimedExchange) → slice_get xs (length xs - 1) ≡ Some a → last_reply xs ≡ Some a.reply
last_is [] a found = absurd cc
last_is (x ∷ []) a found = let e : x ≡ a = cc in ap (λ (b : TimedExchange). Some b.reply) e
last_is (x ∷ y ∷ xs) a found = last_is (y ∷ xs) a (subst (λ n. slice_get (x ∷ y ∷ xs) n ≡ Some a) (earlier x y xs) found)

pub last_none : (xs : List TimedExchange) → slice_get xs (length xs - 1) ≡ None → last_reply xs ≡ None
last_none [] found = refl
last_none (x ∷ []) found = absurd cc
last_none (x ∷ y ∷ xs) found = last_none (y ∷ xs) (subst (λ n. slice_get (x ∷ y ∷ xs) n ≡ None) (earlier x y xs) found)

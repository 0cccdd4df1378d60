-- Those who race stay on their way.
use Rattle.std.proofs.Common.{◌≡◌, ℕ, zero, suc, ◌<◌, List, [], ◌∷◌, length, get_or, slice_set, sym, subst, arith}
use Rattle.std.specs.List.{AllByRecursion}
use Rattle.indexmap.specs.IndexMap.{values}
use Rattle.outcomes.proofs.Lists.{all_weaker}
use Rattle.outcomes.specs.Names.{AreNamed}
use Rattle.outcomes.specs.Parts.{Grows}
use Rattle.outcomes.specs.declared.replies.Replies.{Replies}
use Rattle.participants.proofs.Stands.{within_grown}
use Rattle.participants.specs.Stands.{IsWithin}
use Rattle.participants.specs.declared.stand.Stand.{Stand}
use Rattle.race_scripts.specs.Play.{AreOnTheWay}

all_set : {A : Type 0} (P : A → Type 0) (xs : List A) (i : ℕ) (x : A) → AllByRecursion P xs → P x → AllByRecursion P (slice_set xs i x)
all_set P [] i x all own = tt
all_set P (y ∷ xs) zero x all own = (own, all.1)
all_set P (y ∷ xs) (suc i) x all own = (all.0, all_set P xs i x all.1 own)

all_get : {A : Type 0} (P : A → Type 0) (xs : List A) (i : ℕ) (x : A) → AllByRecursion P xs → i < length xs → x ≡ get_or xs i x → P x
all_get P [] i x all inside is = absurd (omega (arith, inside))
all_get P (y ∷ xs) zero x all inside is = subst P (sym is) all.0
all_get P (y ∷ xs) (suc i) x all inside is = all_get P xs i x all.1 (omega (arith, inside)) is

pub one_within : (replies : Replies) (stands : List Stand) (i : ℕ) (s : Stand) → AreOnTheWay replies stands → i < length stands → s ≡ get_or stands i s
    → IsWithin (values replies.named) s
one_within replies stands i s on = all_get (IsWithin (values replies.named)) stands i s on.within

pub one_moved : (replies : Replies) (stands : List Stand) (i : ℕ) (s : Stand) → AreOnTheWay replies stands → IsWithin (values replies.named) s
    → AreOnTheWay replies (slice_set stands i s)
one_moved replies stands i s on within = record { named = on.named; within = all_set (IsWithin (values replies.named)) stands i s on.within within }

pub all_grown : (old new : Replies) (stands : List Stand) → AreOnTheWay old stands → AreNamed new.named.entries → Grows (values old.named) (values new.named)
    → AreOnTheWay new stands
all_grown old new stands on named grows = record {
  named = named;
  within = all_weaker (IsWithin (values old.named)) (IsWithin (values new.named)) (λ s w. within_grown (values old.named) (values new.named) s grows w) stands on.within;
}

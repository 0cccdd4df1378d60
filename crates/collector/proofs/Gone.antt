-- When an owner counts as gone: the same for tests that agree, and never for one that is listed or was created later.
use Rattle.std.proofs.Common.{◌≡◌, inl, inr, ℕ, ◌<◌, nat_le, nat_eq, [], ◌∷◌, length, Bool, true, false, not, ◌&&◌, Option, Some, None, refl, ◌∙◌, ap, arith}
use Rattle.std.proofs.lemmas.Bool.Decides.{nat_tests}
use Rattle.serde_json.specs.Data.{Items, no_items, item}
use Rattle.objects.specs.declared.object.Object.{Object}
use Rattle.objects.specs.Metadata.{owners_of}
use Rattle.objects.specs.Tree.{items_of}
use Rattle.collector.specs.Collectable.{owner_number, is_gone, are_gone, has_items, is_collectable, HasOwner}

pub is_gone-same : (at : ℕ) (f g : ℕ → Bool) → ((n : ℕ) → f n ≡ g n) → (o : Option ℕ) → is_gone at f o ≡ is_gone at g o
is_gone-same at f g e None = refl
is_gone-same at f g e (Some n) = ap (λ b. nat_le n at && not b) (e n)

pub are_gone-same : (at : ℕ) (f g : ℕ → Bool) → ((n : ℕ) → f n ≡ g n) → (ds : Items) → are_gone at f ds ≡ are_gone at g ds
are_gone-same at f g e no_items = refl
are_gone-same at f g e (item d ds) =
    ap (λ b. b && are_gone at f ds) (is_gone-same at f g e (owner_number d)) ∙ ap (λ b. is_gone at g (owner_number d) && b) (are_gone-same at f g e ds)

pub is_collectable-same : (at : ℕ) (f g : ℕ → Bool) → ((n : ℕ) → f n ≡ g n) → (claim : Object) → is_collectable at f claim ≡ is_collectable at g claim
is_collectable-same at f g e claim = ap (λ b. has_items (owners_of claim.body) && b) (are_gone-same at f g e (owners_of claim.body))

and-false : (a : Bool) → (a && false) ≡ false
and-false true = refl
and-false false = refl

-- one owner that is not gone is enough
pub are_gone-kept : (at : ℕ) (f : ℕ → Bool) (n : ℕ) → is_gone at f (Some n) ≡ false → (ds : Items) → HasOwner n ds → are_gone at f ds ≡ false
are_gone-kept at f n kept no_items h = elim h [ ]
are_gone-kept at f n kept (item d ds) (inl e) = ap (λ o. is_gone at f o && are_gone at f ds) e ∙ ap (λ b. b && are_gone at f ds) kept
are_gone-kept at f n kept (item d ds) (inr h) =
    ap (λ b. is_gone at f (owner_number d) && b) (are_gone-kept at f n kept ds h) ∙ and-false (is_gone at f (owner_number d))

pub is_collectable-kept : (at : ℕ) (f : ℕ → Bool) (n : ℕ) (claim : Object) → is_gone at f (Some n) ≡ false → HasOwner n (owners_of claim.body) → is_collectable at f claim ≡ false
is_collectable-kept at f n claim kept h =
    ap (λ b. has_items (owners_of claim.body) && b) (are_gone-kept at f n kept (owners_of claim.body) h) ∙ and-false (has_items (owners_of claim.body))

pub is_gone-listed : (at : ℕ) (f : ℕ → Bool) (n : ℕ) → f n ≡ true → is_gone at f (Some n) ≡ false
is_gone-listed at f n e = ap (λ b. nat_le n at && not b) e ∙ and-false (nat_le n at)

not-le : (n m : ℕ) → m < n → nat_le n m ≡ false
not-le n m later = grind (arith, nat_tests)

pub is_gone-later : (at : ℕ) (f : ℕ → Bool) (n : ℕ) → at < n → is_gone at f (Some n) ≡ false
is_gone-later at f n later = ap (λ b. b && not (f n)) (not-le n at later)

pub has_items-some : (ts : _) → nat_eq (length ts) 0 ≡ false → has_items (items_of ts) ≡ true
has_items-some [] e = cc
has_items-some (t ∷ ts) e = refl

-- A claim that is deleted with some owners is collected once they are gone.
use Rattle.std.proofs.Common.{◌≡◌, ℕ, Bool, true, false, List, Option, Some, None, refl}
use Rattle.std.proofs.lemmas.Bool.{and_parts}
use Rattle.std.specs.Option.{option_map_or}
use Rattle.std.specs.Prelude.{◌&&◌, not, nat_le}
use Rattle.serde_json.specs.Data.{Items, no_items, item}
use Rattle.objects.specs.declared.object.Object.{Object}
use Rattle.objects.specs.Metadata.{owners_of}
use Rattle.collector.specs.Collectable.{are_gone, has_items, is_collectable, is_gone, is_listed, owner_number}
use Rattle.reasons.specs.Gone.{all_gone_with, any_among, is_deleted_with, is_gone_with}

module _ (gone : ℕ → Bool) (at : ℕ) (listed : ℕ → Bool) (are : (n : ℕ) → gone n ≡ true → (nat_le n at ≡ true) × (listed n ≡ false)) where
  one_is_gone : (o : Option ℕ) → option_map_or gone o true ≡ true → is_gone at listed o ≡ true
  one_is_gone None is = refl
  one_is_gone (Some n) is = let r = are n is in λ i. r.0 i && not (r.1 i)

  all_are_gone : (ds : Items) → all_gone_with gone ds ≡ true → are_gone at listed ds ≡ true
  all_are_gone no_items all = refl
  all_are_gone (item d ds) all =
      let parts = and_parts (is_gone_with gone d) (all_gone_with gone ds) all in
      let first = one_is_gone (owner_number d) parts.0 in
      let rest = all_are_gone ds parts.1 in
      λ i. first i && rest i

  some_has_items : (ds : Items) → any_among gone ds ≡ true → has_items ds ≡ true
  some_has_items no_items any = any
  some_has_items (item d ds) any = refl

  collected_of : (claim : Object) → is_deleted_with gone claim ≡ true → is_collectable at listed claim ≡ true
  collected_of claim is =
      let parts = and_parts (any_among gone (owners_of claim.body)) (all_gone_with gone (owners_of claim.body)) is in
      let some = some_has_items (owners_of claim.body) parts.0 in
      let all = all_are_gone (owners_of claim.body) parts.1 in
      λ i. some i && all i

pub collected : (gone : ℕ → Bool) (claim : Object) (owners : List (List Object)) (listed_at : ℕ) → is_deleted_with gone claim ≡ true
    → ((n : ℕ) → gone n ≡ true → (nat_le n listed_at ≡ true) × (is_listed owners n ≡ false)) → is_collectable listed_at (is_listed owners) claim ≡ true
collected gone claim owners listed_at is are = collected_of gone listed_at (is_listed owners) are claim is

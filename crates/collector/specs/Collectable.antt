-- Which claims are collected (Kubernetes documentation, "Garbage Collection": a dependent is deleted once none of its
-- owners is there; "StatefulSets": PersistentVolumeClaim retention).
use Rattle.std.specs.Prelude.{◌≡◌, ◌⊎◌, ℕ, ◌==◌, nat_le, Bool, true, false, not, ◌&&◌, List, map, filter, decimal, codes, Option, Some, None, option_and_then}
use Rattle.std.specs.List.{list_any}
use Rattle.serde_json.specs.Data.{Data, Items, no_items, item}
use Rattle.serde_json.specs.Find.{get, as_str}
use Rattle.objects.specs.declared.object.Object.{Object}
use Rattle.objects.specs.Again.{text_unless_zero}
use Rattle.objects.specs.Metadata.{owners_of}
use Rattle.objects.specs.Uid.{uid_text, uid_number}
use Rattle.requests.specs.declared.request.Request.{Request}
use Rattle.requests.specs.declared.request.Request.TheVariants.{Delete}

-- the number of the UID that an owner reference names, if it is one that the store gives
abbrev pub owner_number : Data → Option ℕ
owner_number owner = option_and_then uid_number (option_and_then as_str (get (codes "uid") owner))

-- An owner is gone for good if its UID is none that the store gives, or if it was given by the time of the lists and no
-- listed object has it.
abbrev pub is_gone : ℕ → (ℕ → Bool) → Option ℕ → Bool
is_gone listed_at is_listed None = true
is_gone listed_at is_listed (Some n) = nat_le n listed_at && not (is_listed n)

-- each of these owners is gone
abbrev pub are_gone : ℕ → (ℕ → Bool) → Items → Bool
are_gone listed_at is_listed no_items = true
are_gone listed_at is_listed (item d ds) = is_gone listed_at is_listed (owner_number d) && are_gone listed_at is_listed ds

abbrev pub has_items : Items → Bool
has_items no_items = false
has_items (item d ds) = true

-- the claim has an owner, and each of its owners is gone
abbrev pub is_collectable : ℕ → (ℕ → Bool) → Object → Bool
is_collectable listed_at is_listed claim = has_items (owners_of claim.body) && are_gone listed_at is_listed (owners_of claim.body)

-- one of the lists has an object with the UID of that number
abbrev pub is_listed : List (List Object) → ℕ → Bool
is_listed lists n = list_any (λ (objects : List Object). list_any (λ (o : Object). o.meta.uid == n) objects) lists

-- the delete of an object just as it was read: by its UID and its resource version, at once
abbrev pub deletion : Object → Request
deletion claim = Delete claim.key (text_unless_zero claim.meta.uid (uid_text claim.meta.uid)) (text_unless_zero claim.meta.revision (decimal claim.meta.revision)) None

-- the deletes of the collectable claims, in the order of the claims
abbrev pub collection : List Object → List (List Object) → ℕ → List Request
collection claims owners listed_at = map deletion (filter (is_collectable listed_at (is_listed owners)) claims)

-- one of these owner references names the UID of that number
abbrev pub HasOwner : ℕ → Items → Type 0
HasOwner n no_items = ⊥
HasOwner n (item d ds) = (owner_number d ≡ Some n) ⊎ HasOwner n ds

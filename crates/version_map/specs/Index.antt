-- The slots of all keys, and of those that are listed.
use Rattle.std.specs.Prelude.{◌≡◌, ℕ, Some, refl}
use Rattle.std.specs.Coded.{Coded, code_by, coded×, coded_ℕ}
use Rattle.std.specs.FinMap as finite
use Rattle.objects.specs.declared.key.Key.{Key}
use Rattle.objects.specs.Key.{key_coded}
use Rattle.version_map.specs.Named.{KeySlots, both}
use Rattle.version_map.specs.declared.index.Place.{Place}
use Rattle.version_map.specs.declared.index.Found.{Found}

pub record Index : Type 0 where
  pub all : KeySlots
  pub listed : KeySlots

abbrev pub index_coded : Coded Index
index_coded = code_by (KeySlots × KeySlots) (coded× (finite.code key_coded coded_ℕ) (finite.code key_coded coded_ℕ)) (λ i. (i.all, i.listed)) (λ p. record { all = p.0; listed = p.1 }) (λ _. refl)

abbrev pub index_with : (listed tombstones : KeySlots) → Index
index_with listed tombstones = record { all = both listed tombstones; listed = listed }

abbrev pub no_keys : Index
no_keys = record { all = finite.empty; listed = finite.empty }

abbrev pub with_key : Index → Key → ℕ → Index
with_key i k p = record { all = finite.insert i.all k p; listed = finite.insert i.listed k p }

-- what has a slot keeps it
abbrev pub AreKept : KeySlots → KeySlots → Type 0
AreKept old new = (k : Key) (p : ℕ) → finite.get old k ≡ Some p → finite.get new k ≡ Some p

abbrev pub AreWithin : Index → Type 0
AreWithin i = AreKept i.listed i.all

-- the slots that a key has among the listed keys, and among all
abbrev pub IsPlaceOf : Index → Key → Place → Type 0
IsPlaceOf i k place = (place.listed ≡ finite.get i.listed k) × (place.slot ≡ finite.get i.all k)

abbrev pub IsFoundIn : Index → Found → Type 0
IsFoundIn i found = IsPlaceOf i found.key found.place

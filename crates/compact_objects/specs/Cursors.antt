-- What has been passed over of a text.
use Rattle.std.specs.Prelude.{◌≡◌, ℕ, List, ◌∷◌}
use Rattle.serde_json.specs.Data.{Data, string}

-- the text does not begin with that byte
abbrev pub BeginsNot : ℕ → List ℕ → Type 0
BeginsNot c s = (r : List ℕ) → s ≡ c ∷ r → ⊥

-- the value is a text, and what was found is what follows it
pub record IsTextBefore (d : Data) (rest found : List ℕ) : Type 0 where
  pub said : List ℕ
  pub is : d ≡ string said
  pub rest_is : found ≡ rest

-- the text does not go on with a value: it begins with no byte but what may follow one
abbrev pub EndsValue : List ℕ → Type 0
EndsValue rest = (c : ℕ) → (c ≡ 44 → ⊥) → (c ≡ 93 → ⊥) → (c ≡ 125 → ⊥) → BeginsNot c rest

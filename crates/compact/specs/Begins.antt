-- What has been passed over, from a text to the rest of it.
use Rattle.std.specs.Prelude.{◌≡◌, ◌<◌, ◌≤◌, ◌^◌, ℕ, List, ◌∷◌, ◌++◌, length, decimal}
use Rattle.json.specs.Print.{escape, escape_byte, quoted}
use Rattle.json.specs.Json.{Json}
use Rattle.json.specs.Tree.{depth}
use Rattle.compact.specs.Texts.{json_text, IsWhole}

-- a value that is no list and no map
pub record BeginsScalar (text rest : List ℕ) : Type 0 where
  pub value : Json
  pub is : text ≡ json_text value ++ rest
  pub shallow : depth value ≤ 0
  pub whole : IsWhole value

-- a text with no escape, and how many bytes it takes
pub record IsPlainText (text : List ℕ) (n : ℕ) : Type 0 where
  pub inside : List ℕ
  pub rest : List ℕ
  pub is : text ≡ quoted inside ++ rest
  pub size : length (quoted inside) ≡ n
  pub plain : escape inside ≡ inside

-- a text after its first quote
pub record EndsText (text rest : List ℕ) : Type 0 where
  pub value : List ℕ
  pub is : text ≡ escape value ++ 34 ∷ rest

-- the same, with no escape
pub record EndsPlain (text rest : List ℕ) : Type 0 where
  pub value : List ℕ
  pub is : text ≡ value ++ 34 ∷ rest
  pub plain : escape value ≡ value

-- an escape after its backslash
pub record EndsEscape (text rest : List ℕ) : Type 0 where
  pub byte : ℕ
  pub is : 92 ∷ text ≡ escape_byte byte ++ rest

pub record BeginsDigits (text : List ℕ) (value : ℕ) (rest : List ℕ) : Type 0 where
  pub is : text ≡ decimal value ++ rest
  pub fits : value < 2 ^ 64

-- A text whose members were put into byte order in place.
use Rattle.std.specs.Prelude.{◌≡◌, ◌≤◌, ℕ, List, ◌∷◌, ◌++◌, length, false, Some}
use Rattle.json.specs.Print.{quoted, escape}
use Rattle.json.specs.Json.{Json, Items, Members}
use Rattle.json.specs.Tree.{depth, items_depth, members_depth}
use Rattle.serde_json.specs.Data as values
use Rattle.serde_json.specs.Data.{Data, put}
use Rattle.serde_json.specs.Read.{of_json, of_items, of_members}
use Rattle.serde_json.specs.Written as written
use Rattle.serde_json.specs.Written.{compact_text}
use Rattle.compact.specs.Texts.{json_text, items_text, members_text, IsWhole, AreWholeItems, AreWholeMembers}

-- The old text begins with a value, and the new one, in as many bytes, with what is printed of the value that it reads
-- as. P holds of that value.
pub record IsOrdered (most : ℕ) (P : Data → Type 0) (old new : List ℕ) (n : ℕ) : Type 0 where
  pub value : Json
  pub made : Data
  pub rest : List ℕ
  pub is : old ≡ json_text value ++ rest
  pub now : new ≡ compact_text made ++ rest
  pub size : length (compact_text made) ≡ n
  pub converted : of_json value ≡ Some made
  pub shallow : depth value ≤ most
  pub whole : IsWhole value
  pub said : P made

-- the items of a list after its first bracket
pub record AreOrderedItems (most : ℕ) (old new : List ℕ) (n : ℕ) : Type 0 where
  pub items : Items
  pub made : values.Items
  pub rest : List ℕ
  pub is : old ≡ items_text false items ++ rest
  pub now : new ≡ written.items_text false made ++ rest
  pub size : length (written.items_text false made) ≡ n
  pub converted : of_items items ≡ Some made
  pub shallow : items_depth items ≤ most
  pub whole : AreWholeItems items

-- the members of a map after its first brace
pub record AreOrderedMembers (most : ℕ) (P : values.Members → Type 0) (old new : List ℕ) (n : ℕ) : Type 0 where
  pub members : Members
  pub made : values.Members
  pub rest : List ℕ
  pub is : old ≡ members_text false members ++ rest
  pub now : new ≡ written.members_text false made ++ rest
  pub size : length (written.members_text false made) ≡ n
  pub converted : of_members members values.no_members ≡ Some made
  pub shallow : members_depth members ≤ most
  pub whole : AreWholeMembers members
  pub said : P made

-- one member, and how long its key is with the quotes
pub record IsOrderedMember (most : ℕ) (P : List ℕ → Data → Type 0) (old new : List ℕ) (key_size n : ℕ) : Type 0 where
  pub key : List ℕ
  pub value : Json
  pub made : Data
  pub rest : List ℕ
  pub is : old ≡ quoted key ++ 58 ∷ (json_text value ++ rest)
  pub now : new ≡ quoted key ++ 58 ∷ (compact_text made ++ rest)
  pub key_is : length (quoted key) ≡ key_size
  pub plain : escape key ≡ key
  pub size : length (quoted key ++ 58 ∷ compact_text made) ≡ n
  pub converted : of_json value ≡ Some made
  pub shallow : depth value ≤ most
  pub whole : IsWhole value
  pub said : P key made

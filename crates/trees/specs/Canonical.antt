-- Values that read back as they are printed: keys ascend, and each number is read from its digits again.
use Rattle.std.specs.Prelude.{◌≡◌, Some, ⊤}
use Rattle.serde_json.specs.Data.{Data, null, boolean, number, string, array, object, Items, no_items, item, Members, no_members, member}
use Rattle.serde_json.specs.Read.{number_of}
use Rattle.serde_json.specs.Written.{number_text}
use Rattle.trees.specs.Tree.{AreAscending}

abbrev mutual
  pub IsCanonical : Data → Type 0
  IsCanonical null = ⊤
  IsCanonical (boolean b) = ⊤
  IsCanonical (number n) = number_of (number_text n) ≡ Some n
  IsCanonical (string s) = ⊤
  IsCanonical (array ds) = AreCanonicalItems ds
  IsCanonical (object ms) = AreAscending ms × AreCanonicalMembers ms

  pub AreCanonicalItems : Items → Type 0
  AreCanonicalItems no_items = ⊤
  AreCanonicalItems (item d ds) = IsCanonical d × AreCanonicalItems ds

  pub AreCanonicalMembers : Members → Type 0
  AreCanonicalMembers no_members = ⊤
  AreCanonicalMembers (member k d ms) = IsCanonical d × AreCanonicalMembers ms

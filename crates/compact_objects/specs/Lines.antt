-- What a draft is that was read from a line, whatever the order of its members was.
use Rattle.std.specs.Prelude.{◌≡◌, ◌≤◌, ℕ, List, length, codes, true, false, Some, Ok}
use Rattle.std.specs.Str.{is_utf8}
use Rattle.serde_json.specs.Data.{Members, object as map_of}
use Rattle.serde_json.specs.Find.{get_member}
use Rattle.serde_json.specs.Read.{read}
use Rattle.serde_json.specs.Written.{has_float}
use Rattle.trees.specs.Canonical.{IsCanonical}
use Rattle.objects.specs.Reading.{most_bytes, reading_of_data}
use Rattle.compact_objects.specs.Drafts.{IsDraftOf}
use Rattle.compact_objects.specs.declared.draft.CompactDraft.{CompactDraft}

-- A reader of JSON reads the line as these members, of which `object` is what the draft was read from. So does the
-- store's own reading, unless it refuses the line for its length or its bytes.
pub record IsDraftOfLine (c : CompactDraft) (line : List ℕ) : Type 0 where
  pub members : Members
  pub object : Members
  pub reads : read line ≡ Some (map_of members)
  pub reading : length line ≤ most_bytes → is_utf8 line ≡ true → reading_of_data line ≡ Ok (map_of members)
  pub found : get_member (codes "object") members ≡ Some (map_of object)
  pub draft : IsDraftOf c object
  pub canonical : IsCanonical (map_of object)
  pub integral : has_float (map_of object) ≡ false

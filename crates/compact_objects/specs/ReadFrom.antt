-- What is known of a draft whose object is put into the store.
use Rattle.std.specs.Prelude.{◌≡◌, false, Ok}
use Rattle.serde_json.specs.Data.{Members, object}
use Rattle.serde_json.specs.Written.{has_float}
use Rattle.trees.specs.Canonical.{IsCanonical}
use Rattle.objects.specs.Reading.{draft_in}
use Rattle.objects.specs.declared.object.Draft.{Draft}
use Rattle.compact_objects.specs.Drafts.{IsDraftOf}
use Rattle.compact_objects.specs.declared.draft.CompactDraft.{CompactDraft}

-- The draft was read from members that read as this one: a canonical map of whole numbers.
pub record IsReadFrom (c : CompactDraft) (d : Draft) : Type 0 where
  pub members : Members
  pub draft : IsDraftOf c members
  pub canonical : IsCanonical (object members)
  pub integral : has_float (object members) ≡ false
  pub reads : draft_in members ≡ Ok d

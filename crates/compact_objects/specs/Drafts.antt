-- What a draft is that was read from an object as it is written.
use Rattle.std.specs.Borrow.{Bor}
use Rattle.std.specs.Prelude.{◌≡◌, ℕ, List, codes, Option, option_map, Some, Ok}
use Rattle.serde_json.specs.Data.{Members, object}
use Rattle.serde_json.specs.Find.{get_member}
use Rattle.serde_json.specs.Written.{compact_text}
use Rattle.compact.specs.declared.table.Entry.{Entry}
use Rattle.objects.specs.Key.{KeyParts}
use Rattle.objects.specs.Reading.{draft_in}
use Rattle.objects.specs.declared.object.Draft.{Draft}
use Rattle.compact_objects.specs.declared.draft.CompactDraft.{CompactDraft}
use Rattle.compact_objects.specs.Maps.{IsMap}

-- what a text that is lent says
abbrev pub lent : Option (Bor (List ℕ)) → Option (List ℕ)
lent = option_map (λ t. t.now)

-- the value of the member of that name, as it is written
abbrev pub member_text : List ℕ → Members → Option (List ℕ)
member_text k ms = option_map compact_text (get_member k ms)

-- the reading of these members gives a draft of that key, UID and version
pub record IsReadAs (key : KeyParts) (uid version : Option (List ℕ)) (os : Members) : Type 0 where
  pub draft : Draft
  pub reads : draft_in os ≡ Ok draft
  pub key_is : draft.object.key ≡ key
  pub uid_is : draft.uid ≡ uid
  pub version_is : draft.version ≡ version

-- they have the metadata, as it is written
pub record HasMetadata (text : List ℕ) (table : List Entry) (os : Members) : Type 0 where
  pub members : Members
  pub found : get_member (codes "metadata") os ≡ Some (object members)
  pub is : IsMap text table members

-- the draft is read from these members, and has their texts
pub record IsDraftOf (c : CompactDraft) (os : Members) : Type 0 where
  pub read_as : IsReadAs c.key (lent c.uid) (lent c.version) os
  pub object_is : IsMap c.object.text.now c.object.table.now os
  pub metadata_is : HasMetadata c.metadata.text.now c.metadata.table.now os
  pub spec_is : lent c.spec ≡ member_text (codes "spec") os
  pub status_is : lent c.status ≡ member_text (codes "status") os

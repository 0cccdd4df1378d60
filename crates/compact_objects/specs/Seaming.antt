-- An object that is written with its seams.
use Rattle.std.specs.Prelude.{◌≡◌, ◌⊎◌, ℕ, List, [], ◌∷◌, ◌++◌, length, true, codes, Option, Some, IfSome, ⊤}
use Rattle.serde_json.specs.Data.{Data, object as map_of, Members, no_members, member}
use Rattle.serde_json.specs.Find.{get_member}
use Rattle.serde_json.specs.Written.{compact_text, members_text}
use Rattle.trees.specs.Tree.{AreAscending}
use Rattle.compact.specs.Fields.{IsLeft}
use Rattle.compact.specs.Notes.{AreEntries}
use Rattle.compact.specs.declared.table.Entry.{Entry}
use Rattle.objects.specs.Key.{KeyParts}
use Rattle.objects.specs.Merged.{puts}
use Rattle.objects.specs.Meta.{MetaParts}
use Rattle.objects.specs.Object.{without_held}
use Rattle.objects.specs.Seams.{spec_text, status_text, version_text}
use Rattle.compact_objects.specs.Merging.{AreBelow, IsKept, held_with, object_with, rest_text, some_text, uid_data, without}
use Rattle.compact_objects.specs.declared.merge.MapKind.TheVariants.{Metadata, Object}

-- These members are left, and the text has been written up to the resource version, whatever version and UID come next.
pub record WritesToVersion (whole : Data → Option Data → List ℕ) (left : List ℕ) (entries : List Entry) (old new : List ℕ) : Type 0 where
  pub rest : Members
  pub first : ℕ
  pub others : List ℕ
  pub left_is : IsLeft rest left
  pub entries_are : AreEntries entries rest
  pub ascending : AreAscending rest
  pub new_is : new ≡ old ++ first ∷ others
  pub written : (version : Data) (uid : Option Data) → whole version uid ≡ (first ∷ others) ++ (compact_text version ++ rest_text Metadata ((codes "uid", uid) ∷ []) rest)

-- the metadata with that resource version and that UID
abbrev pub metadata_with : KeyParts → MetaParts → Members → Data → Option Data → Members
metadata_with key meta ms version uid = puts (held_with key meta (Some version) uid) (without_held ms)

-- its members as they are written, each with a comma before it, and the closing brace
abbrev pub members_with : KeyParts → MetaParts → Members → Data → Option Data → List ℕ
members_with key meta ms version uid = members_text true (metadata_with key meta ms version uid)

-- the member `metadata` as it is written, with a comma before it
abbrev pub member_with : KeyParts → MetaParts → Members → Data → Option Data → List ℕ
member_with key meta ms version uid = some_text (codes "metadata") (Some (map_of (metadata_with key meta ms version uid)))

-- An object has been written up to its resource version; these members of its metadata and of its own are left, whatever
-- version, UID and status come next.
pub record WritesFront (key : KeyParts) (meta : MetaParts) (os ms : Members) (left : List ℕ) (entries : List Entry) (last : List ℕ) (last_entries : List Entry) (front : List ℕ) : Type 0 where
  pub versioned : Members
  pub versioned_left : IsLeft versioned left
  pub versioned_entries : AreEntries entries versioned
  pub versioned_ascending : AreAscending versioned
  pub rest : Members
  pub left_is : IsLeft rest last
  pub entries_are : AreEntries last_entries rest
  pub ascending : AreAscending rest
  pub kept : IsKept Object (codes "status") os rest
  pub spec : get_member (codes "spec") os ≡ get_member (codes "spec") rest
  pub written : (version : Data) (uid status : Option Data) → compact_text (map_of (object_with (metadata_with key meta ms version uid) status (without Object os)))
      ≡ front ++ (compact_text version ++ (rest_text Metadata ((codes "uid", uid) ∷ []) versioned ++ rest_text Object ((codes "status", status) ∷ []) rest))

-- there is no member, or the status alone
abbrev pub IsEnd : Members → Type 0
IsEnd no_members = ⊤
IsEnd (member k d no_members) = k ≡ codes "status"
IsEnd (member k d (member l e ms)) = ⊥

-- there is none but the spec and the status
abbrev pub IsSpecAlone : Members → Type 0
IsSpecAlone no_members = ⊤
IsSpecAlone (member k d ms) = IsEnd (member k d ms) ⊎ ((k ≡ codes "spec") × IsEnd ms)

-- after the metadata there is none but these
abbrev pub HasSpecAlone : Members → Type 0
HasSpecAlone no_members = ⊥
HasSpecAlone (member k d ms) = (k ≡ codes "metadata") × IsSpecAlone ms

-- the spec is at the end of these bytes, in that many of them
pub record HasSpecAtEnd (middle : List ℕ) (spec : Option Data) (size : ℕ) : Type 0 where
  pub before : List ℕ
  pub middle_is : middle ≡ before ++ spec_text spec
  pub size_is : size ≡ length (spec_text spec)

-- An object has been written with its seams at these offsets, whatever version and status come there.
pub record WritesObject (key : KeyParts) (meta : MetaParts) (os ms : Members) (end : List ℕ) (version status : ℕ) (spec : Option ℕ) (new : List ℕ) : Type 0 where
  pub front : List ℕ
  pub middle : List ℕ
  pub below : AreBelow (codes "status") (without Object os)
  pub written : (version : Data) (status : Option Data) → compact_text (map_of (object_with (metadata_with key meta ms version (uid_data meta.uid)) status (without Object os))) ≡ front ++ (compact_text version ++ (middle ++ status_text status))
  pub new_is : new ≡ front ++ (version_text meta.revision ++ (middle ++ end))
  pub version_at : version ≡ length front
  pub status_at : status ≡ length (front ++ (version_text meta.revision ++ middle))
  pub spec_at : IfSome spec (HasSpecAtEnd middle (get_member (codes "spec") os))

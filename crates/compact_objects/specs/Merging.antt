-- The members of a map that are written along with those that the store sets.
use Rattle.std.specs.Prelude.{◌≡◌, ℕ, List, [], ◌∷◌, ◌++◌, Bool, true, ◌||◌, bytes_eq, codes, cond, Option, Some, None, option_map, ⊤}
use Rattle.std.specs.Ordering.{nat_cmp}
use Rattle.std.specs.declared.cmp.Ordering.TheVariants.{Greater, Less}
use Rattle.std.specs.Cmp.Lexicographic.{slice_cmp}
use Rattle.json.specs.Print.{quoted}
use Rattle.serde_json.specs.Data.{Data, number, object as map_of, string, unsigned, Members, no_members, member}
use Rattle.serde_json.specs.Find.{get_member}
use Rattle.serde_json.specs.Written.{compact_text, members_text}
use Rattle.trees.specs.Tree.{AreAscending, ComesBefore}
use Rattle.compact.specs.Fields.{IsLeft}
use Rattle.compact.specs.Notes.{AreEntries}
use Rattle.compact.specs.declared.table.Entry.{Entry}
use Rattle.objects.specs.Key.{KeyParts}
use Rattle.objects.specs.Merged.{IsBelowAll, puts}
use Rattle.objects.specs.Meta.{MetaParts}
use Rattle.objects.specs.Object.{is_held}
use Rattle.objects.specs.Text.{unless_zero}
use Rattle.objects.specs.Uid.{uid_text}
use Rattle.compact_objects.specs.declared.held.HeldMember.{HeldMember}
use Rattle.compact_objects.specs.declared.held.HeldMember.TheVariants.{DeletionTimestamp, Generation, Name, Namespace, Uid}
use Rattle.compact_objects.specs.declared.merge.MapKind.{MapKind}
use Rattle.compact_objects.specs.declared.merge.MapKind.TheVariants.{Metadata, Object}

-- the store sets the member of that key
abbrev pub is_set : MapKind → List ℕ → Bool
is_set Object k = bytes_eq (codes "metadata") k || bytes_eq (codes "status") k
is_set Metadata k = is_held k

-- the members that the store does not set
abbrev pub without : MapKind → Members → Members
without part no_members = no_members
without part (member k d ms) = cond (is_set part k) (without part ms) (member k d (without part ms))

abbrev pub held_key : HeldMember → List ℕ
held_key (DeletionTimestamp s) = codes "deletionTimestamp"
held_key (Generation n) = codes "generation"
held_key (Name s) = codes "name"
held_key (Namespace s) = codes "namespace"
held_key (Uid n) = codes "uid"

abbrev pub uid_data : ℕ → Option Data
uid_data n = unless_zero n (string (uid_text n))

abbrev pub held_data : HeldMember → Option Data
held_data (DeletionTimestamp s) = option_map string (option_map (λ t. t.now) s)
held_data (Generation n) = unless_zero n (number (unsigned n))
held_data (Name s) = Some (string s.text.now)
held_data (Namespace s) = Some (string s.text.now)
held_data (Uid n) = uid_data n

-- what the store sets in the metadata, with that resource version and that UID
abbrev pub held_with : KeyParts → MetaParts → Option Data → Option Data → List (List ℕ × Option Data)
held_with key meta version uid =
    (codes "deletionTimestamp", option_map string meta.deletion) ∷ (codes "generation", unless_zero meta.generation (number (unsigned meta.generation)))
    ∷ (codes "name", Some (string key.name)) ∷ (codes "namespace", Some (string key.namespace))
    ∷ (codes "resourceVersion", version) ∷ (codes "uid", uid) ∷ []

-- the members of an object with that metadata and that status, and these others
abbrev pub object_with : Members → Option Data → Members → Members
object_with metadata status others = puts ((codes "metadata", Some (map_of metadata)) ∷ (codes "status", status) ∷ []) others

-- a member as it is written, with a comma before it
abbrev pub field_text : List ℕ → List ℕ → List ℕ
field_text k v = 44 ∷ 34 ∷ (k ++ 34 ∷ 58 ∷ v)

-- the same, of one that the store does not set
abbrev pub other_text : MapKind → List ℕ → List ℕ → List ℕ
other_text part k v = cond (is_set part k) [] (field_text k v)

abbrev pub some_text : List ℕ → Option Data → List ℕ
some_text k None = []
some_text k (Some d) = 44 ∷ (quoted k ++ 58 ∷ compact_text d)

-- the members, with these that are set, each with a comma before it, and the closing brace
abbrev pub rest_text : MapKind → List (List ℕ × Option Data) → Members → List ℕ
rest_text part hs ms = members_text true (puts hs (without part ms))

-- each key is below that one
abbrev pub AreBelow : List ℕ → Members → Type 0
AreBelow k no_members = ⊤
AreBelow k (member l d ms) = (slice_cmp nat_cmp k l ≡ Greater) × AreBelow k ms

-- Of these members those are left, and none of that key or above has been passed over.
pub record IsKept (part : MapKind) (k : List ℕ) (ms rest : Members) : Type 0 where
  pub found : get_member k ms ≡ get_member k rest
  pub below : AreBelow k (without part rest) → AreBelow k (without part ms)

-- These members are left, with others written: with whatever is set from that key on, all is written.
pub record WritesBelow (part : MapKind) (k : List ℕ) (ms : Members) (left : List ℕ) (entries : List Entry) (old new : List ℕ) : Type 0 where
  pub rest : Members
  pub bytes : List ℕ
  pub left_is : IsLeft rest left
  pub entries_are : AreEntries entries rest
  pub ascending : AreAscending rest
  pub before : ComesBefore k (without part rest)
  pub new_is : new ≡ old ++ bytes
  pub written : (hs : List (List ℕ × Option Data)) (v : Option Data) → IsBelowAll k hs → rest_text part ((k, v) ∷ hs) ms ≡ bytes ++ rest_text part ((k, v) ∷ hs) rest
  pub kept : IsKept part k ms rest
  pub kept_above : (q : List ℕ) → slice_cmp nat_cmp k q ≡ Less → IsKept part q ms rest

-- The same, with the member of that key: with whatever is set after it, all is written.
pub record WritesStep (part : MapKind) (k : List ℕ) (v : Option Data) (ms : Members) (left : List ℕ) (entries : List Entry) (old new : List ℕ) : Type 0 where
  pub rest : Members
  pub bytes : List ℕ
  pub left_is : IsLeft rest left
  pub entries_are : AreEntries entries rest
  pub ascending : AreAscending rest
  pub new_is : new ≡ old ++ bytes
  pub written : (hs : List (List ℕ × Option Data)) → IsBelowAll k hs → rest_text part ((k, v) ∷ hs) ms ≡ bytes ++ rest_text part hs rest

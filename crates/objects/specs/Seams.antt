-- The seams of the text of an object, where another resource version or another status can be put in.
use Rattle.std.specs.Prelude.{◌≡◌, ◌≢◌, ℕ, ◌<◌, ◌^◌, List, [], ◌∷◌, ◌++◌, length, take, drop, true, codes, decimal, Option, Some, None, string_bytes, ⊤}
use Rattle.std.specs.Ordering.{nat_cmp}
use Rattle.std.specs.declared.cmp.Ordering.TheVariants.{Greater}
use Rattle.std.specs.Cmp.Lexicographic.{slice_cmp}
use Rattle.json.specs.Lex.{tokens}
use Rattle.std.specs.Str.{IsUtf8}
use Rattle.json.specs.Print.{ArePrintableOrBad, print_from}
use Rattle.json.specs.Token.{Token, begin_object, end_object, key, string as string_token}
use Rattle.json.specs.Tree.{json_tokens, members_tokens}
use Rattle.serde_json.specs.Data.{Data, object, Members, no_members, member}
use Rattle.serde_json.specs.Written.{compact_text, outline, members_outline}
use Rattle.trees.specs.declared.tree.Tree.{Tree}
use Rattle.trees.specs.Tree.{data_of, members_of}
use Rattle.trees.specs.Members.{set_member}
use Rattle.trees.specs.Positions.{IsAbove}
use Rattle.trees.specs.Canonical.{AreCanonicalMembers, IsCanonical}
use Rattle.objects.specs.declared.object.Object.{Object}
use Rattle.objects.specs.declared.printed.IndexedText.{IndexedText}
use Rattle.objects.specs.Object.{KeepsRules}
use Rattle.objects.specs.Merged.{IsFront, StopsAt, after_version, entry_tokens}
use Rattle.objects.specs.PrintedText.{IsTextOf}
use Rattle.objects.specs.Rewrites.{at_version}
use Rattle.objects.specs.Status.{member_of}
use Rattle.objects.specs.Text.{text, printed, full_metadata}

-- each key is below that of the status
abbrev pub AreBelowStatus : Members → Type 0
AreBelowStatus no_members = ⊤
AreBelowStatus (member k d ms) = (slice_cmp nat_cmp (codes "status") k ≡ Greater) × AreBelowStatus ms

-- a resource version as a text has it
abbrev pub version_text : ℕ → List ℕ
version_text n = 34 ∷ (decimal n ++ 34 ∷ [])

-- the end of a text, from the status on, which is its last member if there is one
abbrev pub status_text : Option Data → List ℕ
status_text None = 125 ∷ []
status_text (Some d) = codes ",\"status\":" ++ (compact_text d ++ 125 ∷ [])

abbrev pub status_tokens : Option Data → List Token
status_tokens None = end_object ∷ []
status_tokens (Some d) = key (codes "status") ∷ (json_tokens (outline d) ++ end_object ∷ [])

-- the object with these other members, that resource version and that status
abbrev pub rewritten : Object → Members → ℕ → Option Data → Object
rewritten o others n status = at_version (record { key = o.key; meta = o.meta; body = object (set_member (codes "status") status others) }) n

-- The text has the version between the front and the middle, and the status after these; the same holds for each other
-- version and status.
pub record HasSeams (o : Object) (front middle : List ℕ) : Type 0 where
  pub others : Members
  pub status : Option Data
  pub below : AreBelowStatus others
  pub body : o.body ≡ object (set_member (codes "status") status others)
  pub texts : (n : ℕ) (value : Option Data) → n ≢ 0 → n < 2 ^ 64 → text (rewritten o others n value) ≡ front ++ (version_text n ++ (middle ++ status_text value))
  pub tokens : (n : ℕ) (value : Option Data) → n ≢ 0 → n < 2 ^ 64 → ArePrintableOrBad (status_tokens value)
      → tokens (text (rewritten o others n value)) ≡ json_tokens (outline (printed (rewritten o others n value)))
  pub printable : ArePrintableOrBad (status_tokens status)
  pub rules : KeepsRules o
  pub canonical : IsCanonical o.body
  pub written : o.meta.revision ≢ 0

-- the text has a seam before the version that begins here, and one before the status that begins there
pub record HasSeamsAt (o : Object) (version status : ℕ) : Type 0 where
  pub front : List ℕ
  pub middle : List ℕ
  pub seams : HasSeams o front middle
  pub version_at : version ≡ length front
  pub status_at : status ≡ length (front ++ (version_text o.meta.revision ++ middle))

-- ---- how such a text is written

-- all up to the resource version was written, whatever version and tokens come next
pub record WritesHead (o : Object) (versioned after : List (List ℕ × Tree)) (old new : List Token) : Type 0 where
  pub first : List (List ℕ × Tree)
  pub entry : List ℕ × Tree
  pub metadata : Members
  pub above : IsFront (codes "metadata") first
  pub named : entry.0 ≡ codes "metadata"
  pub holds : data_of entry.1 ≡ object metadata
  pub body : o.body ≡ object (members_of (first ++ entry ∷ after))
  pub tokens : (n : ℕ) (next : List Token) → n ≢ 0
      → old ++ begin_object ∷ (entry_tokens first ++ key (codes "metadata") ∷ begin_object ∷ (members_tokens (members_outline (full_metadata (at_version o n) metadata)) ++ next))
      ≡ (new ++ key (codes "resourceVersion") ∷ []) ++ string_token (decimal n) ∷ (after_version o versioned ++ next)

-- the entries up to the status were written after those bytes
pub record WritesBetween (after tail : List (List ℕ × Tree)) (old new : List ℕ) : Type 0 where
  pub count : ℕ
  pub left : tail ≡ drop count after
  pub above : IsAbove (codes "status") count after
  pub stops : StopsAt (codes "status") tail
  pub bytes : new ≡ old ++ print_from true (entry_tokens (take count after))
  pub utf8 : IsUtf8 (print_from true (entry_tokens (take count after)))
  pub printable : ArePrintableOrBad (entry_tokens (take count after))
  pub canonical : AreCanonicalMembers (members_of tail) → AreCanonicalMembers (members_of after)

-- there is no entry, or the spec alone
abbrev pub IsSpecAlone : List (List ℕ × Tree) → Type 0
IsSpecAlone [] = ⊤
IsSpecAlone (e ∷ []) = e.0 ≡ codes "spec"
IsSpecAlone (e ∷ f ∷ es) = ⊥

-- the version and all up to the status was written
pub record WritesMiddle (o : Object) (versioned after tail : List (List ℕ × Tree)) (old new : List Token) : Type 0 where
  pub count : ℕ
  pub left : tail ≡ drop count after
  pub above : IsAbove (codes "status") count after
  pub stops : StopsAt (codes "status") tail
  pub tokens : new ≡ old ++ string_token (decimal o.meta.revision) ∷ (after_version o versioned ++ entry_tokens (take count after))

-- there is no entry, or the status alone
abbrev pub IsStatusAlone : List (List ℕ × Tree) → Type 0
IsStatusAlone [] = ⊤
IsStatusAlone (e ∷ []) = e.0 ≡ codes "status"
IsStatusAlone (e ∷ f ∷ es) = ⊥

-- the comma before the entries, if there are any
abbrev pub comma_before : List (List ℕ × Tree) → List ℕ
comma_before [] = []
comma_before (e ∷ es) = 44 ∷ []

-- the spec as a text has it after the metadata, with the comma before it
abbrev pub spec_text : Option Data → List ℕ
spec_text None = []
spec_text (Some d) = codes ",\"spec\":" ++ compact_text d

abbrev pub spec_tokens : Option Data → List Token
spec_tokens None = []
spec_tokens (Some d) = key (codes "spec") ∷ json_tokens (outline d)

-- the text has its seams there, and between the metadata and the status it has the spec alone, in that many bytes
pub record IsSpecAt (o : Object) (version status spec : ℕ) : Type 0 where
  pub at : HasSeamsAt o version status
  pub before : List ℕ
  pub middle : at.middle ≡ before ++ spec_text (member_of (codes "spec") o.body)
  pub size : spec ≡ length (spec_text (member_of (codes "spec") o.body))
  pub printable : ArePrintableOrBad (spec_tokens (member_of (codes "spec") o.body))

-- the indexed text has what an update needs to know of the object
pub record IsOpen (o : Object) (s : IndexedText) : Type 0 where
  pub spec : IsSpecAt o s.version s.status s.spec
  pub generation : s.generation ≡ o.meta.generation
  pub unmarked : o.meta.deletion ≡ None

-- the parts of a text that has seams
pub record AreParts (t : List ℕ) (revision version status : ℕ) : Type 0 where
  pub front : List ℕ
  pub middle : List ℕ
  pub rest : List ℕ
  pub text : t ≡ front ++ (version_text revision ++ (middle ++ rest))
  pub version_at : version ≡ length front
  pub status_at : status ≡ length (front ++ (version_text revision ++ middle))

-- the indexed text has the object's text and numbers, and seams where it says
pub record IsIndexedText (o : Object) (s : IndexedText) : Type 0 where
  pub text : IsTextOf o (string_bytes s.text)
  pub uid : s.uid ≡ o.meta.uid
  pub revision : s.revision ≡ o.meta.revision
  pub seams : s.version ≢ 0 → HasSeamsAt o s.version s.status
  pub known : s.version ≢ 0 → s.generation ≢ 0 → IsOpen o s

-- the indexed text has that version and that end
pub record IsSpliced (old : IndexedText) (end : List ℕ) (n : ℕ) (new : IndexedText) : Type 0 where
  pub seams : old.version ≢ 0
  pub written : n ≢ 0
  pub uid : new.uid ≡ old.uid
  pub revision : new.revision ≡ n
  pub generation : new.generation ≡ old.generation
  pub spec : new.spec ≡ old.spec
  pub text : (parts : AreParts (string_bytes old.text) old.revision old.version old.status) → string_bytes new.text ≡ parts.front ++ (version_text n ++ (parts.middle ++ end))
  pub offsets : (parts : AreParts (string_bytes old.text) old.revision old.version old.status) → new.version ≢ 0
      → (new.version ≡ length parts.front) × (new.status ≡ length (parts.front ++ (version_text n ++ parts.middle)))

-- the status is a value that reads back as it is written
abbrev pub IsCanonicalStatus : Option Data → Type 0
IsCanonicalStatus None = ⊤
IsCanonicalStatus (Some d) = IsCanonical d

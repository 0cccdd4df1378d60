-- Members that are written in order among others.
use Rattle.std.specs.Prelude.{◌≡◌, ◌≢◌, ℕ, List, [], ◌∷◌, ◌++◌, take, drop, codes, Option, Some, None, option_map, ⊤}
use Rattle.std.specs.Ordering.{nat_cmp}
use Rattle.std.specs.declared.cmp.Ordering.TheVariants.{Less, Greater}
use Rattle.std.specs.Cmp.Lexicographic.{slice_cmp}
use Rattle.json.specs.Token.{Token, key}
use Rattle.json.specs.Tree.{json_tokens, members_tokens}
use Rattle.serde_json.specs.Data.{Data, string, number, unsigned, Members}
use Rattle.serde_json.specs.Written.{outline, members_outline}
use Rattle.trees.specs.declared.tree.Tree.{Tree}
use Rattle.objects.specs.declared.print.Held.{Held}
use Rattle.objects.specs.declared.print.Held.TheVariants.{Text, Integer}
use Rattle.trees.specs.Tree.{data_of, members_of}
use Rattle.objects.specs.declared.object.Object.{Object}
use Rattle.trees.specs.Building.{put_some}
use Rattle.objects.specs.Text.{unless_zero}
use Rattle.objects.specs.Uid.{uid_text}
use Rattle.trees.specs.Positions.{IsAbove}
use Rattle.trees.specs.Canonical.{AreCanonicalMembers}

abbrev pub held_data : Held → Data
held_data (Text s) = string s.now
held_data (Integer n) = number (unsigned n)

-- what is there is put, the last first
abbrev pub puts : List (List ℕ × Option Data) → Members → Members
puts [] ms = ms
puts (h ∷ hs) ms = put_some h.0 h.1 (puts hs ms)

-- the key comes before each of these
abbrev pub IsBelowAll : List ℕ → List (List ℕ × Option Data) → Type 0
IsBelowAll k [] = ⊤
IsBelowAll k (h ∷ hs) = (slice_cmp nat_cmp k h.0 ≡ Less) × IsBelowAll k hs

-- each entry of the front has a key below k
abbrev pub IsFront : List ℕ → List (List ℕ × Tree) → Type 0
IsFront k [] = ⊤
IsFront k (e ∷ es) = (slice_cmp nat_cmp k e.0 ≡ Greater) × IsFront k es

-- the members without the braces, each with its key
abbrev pub entry_tokens : List (List ℕ × Tree) → List Token
entry_tokens [] = []
entry_tokens (e ∷ es) = key e.0 ∷ (json_tokens (outline (data_of e.1)) ++ entry_tokens es)

abbrev pub some_tokens : List ℕ → Option Data → List Token
some_tokens k None = []
some_tokens k (Some d) = key k ∷ json_tokens (outline d)

-- no entry is left, or the first has no key below k
abbrev pub StopsAt : List ℕ → List (List ℕ × Tree) → Type 0
StopsAt k [] = ⊤
StopsAt k (e ∷ es) = slice_cmp nat_cmp k e.0 ≢ Greater

-- the entries with keys below k were written, and the rest are left
pub record WritesFront (k : List ℕ) (es rest : List (List ℕ × Tree)) (old new : List Token) : Type 0 where
  pub count : ℕ
  pub left : rest ≡ drop count es
  pub above : IsAbove k count es
  pub stops : StopsAt k rest
  pub tokens : new ≡ old ++ entry_tokens (take count es)
  pub canonical : AreCanonicalMembers (members_of rest) → AreCanonicalMembers (members_of es)

abbrev pub rest_tokens : List (List ℕ × Option Data) → List (List ℕ × Tree) → List Token
rest_tokens hs es = members_tokens (members_outline (puts hs (members_of es)))

-- the entries below k and the held member were written, whatever comes after them
abbrev pub WritesStep : List ℕ → Option Data → List (List ℕ × Tree) → List (List ℕ × Tree) → List Token → List Token → Type 0
WritesStep k d es rest old new = (hs : List (List ℕ × Option Data)) → IsBelowAll k hs → old ++ rest_tokens ((k, d) ∷ hs) es ≡ new ++ rest_tokens hs rest

-- the held members, with these two
abbrev pub held_with : Object → Option Data → Option Data → List (List ℕ × Option Data)
held_with o version uid =
    (codes "deletionTimestamp", option_map string o.meta.deletion) ∷ (codes "generation", unless_zero o.meta.generation (number (unsigned o.meta.generation)))
    ∷ (codes "name", Some (string o.key.name)) ∷ (codes "namespace", Some (string o.key.namespace)) ∷ (codes "resourceVersion", version) ∷ (codes "uid", uid) ∷ []

-- the entries of the metadata below the resource version were written with the held members below it, whatever version and UID come next
abbrev pub WritesToVersion : Object → List (List ℕ × Tree) → List (List ℕ × Tree) → List Token → List Token → Type 0
WritesToVersion o es rest old new = (version uid : Option Data)
    → old ++ rest_tokens (held_with o version uid) es ≡ new ++ (some_tokens (codes "resourceVersion") version ++ rest_tokens ((codes "uid", uid) ∷ []) rest)

-- what comes after the resource version in the metadata, with the closing brace
abbrev pub after_version : Object → List (List ℕ × Tree) → List Token
after_version o rest = rest_tokens ((codes "uid", unless_zero o.meta.uid (string (uid_text o.meta.uid))) ∷ []) rest

-- What is said of an object that a reply or a store shows: its name, `made anew` if an object of its name was there
-- before it, `marked`, and those of its members that not all shown objects of its name have.
use Rattle.std.specs.Prelude.{ℕ, Bool, true, false, not, ◌+◌, ◌==◌, ◌||◌, nat_lt, List, [], ◌∷◌, ◌++◌, bytes_eq, codes, decimal, Option, Some, None, if◌then◌else◌, unwrap_or}
use Rattle.std.specs.Global.{Vec}
use Rattle.std.specs.Map.{lookup}
use Rattle.serde_json.specs.Data.{Data, null, boolean, number, string, array, object, Members, no_members, member}
use Rattle.serde_json.specs.Find.{as_object}
use Rattle.serde_json.specs.Written.{compact_text}
use Rattle.objects.specs.Kind.{kind_name}
use Rattle.objects.specs.ShardOf.{key_text}
use Rattle.objects.specs.declared.object.Object.{Object}
use Rattle.outcome_lines.specs.declared.known.KnownNumbers.{KnownNumbers}

abbrev pub lists_in : List (Vec ℕ) → List (List ℕ)
lists_in [] = []
lists_in (v ∷ vs) = v.items ∷ lists_in vs

-- ---- the members of an object

-- `status.phase "Ready"`
abbrev pub leaf : (path : List ℕ) → Data → List ℕ
leaf path d = path ++ 32 ∷ compact_text d

-- each member that is no object, or an empty one, with the names that lead to it
abbrev mutual
  pub leaves : (path : List ℕ) → Data → List (List ℕ)
  leaves path null = leaf path null ∷ []
  leaves path (boolean b) = leaf path (boolean b) ∷ []
  leaves path (number n) = leaf path (number n) ∷ []
  leaves path (string s) = leaf path (string s) ∷ []
  leaves path (array ds) = leaf path (array ds) ∷ []
  leaves path (object no_members) = leaf path (object no_members) ∷ []
  leaves path (object (member k d ms)) = leaves ((path ++ codes ".") ++ k) d ++ member_leaves (path ++ codes ".") ms

  pub member_leaves : (lead : List ℕ) → Members → List (List ℕ)
  member_leaves lead no_members = []
  member_leaves lead (member k d ms) = leaves (lead ++ k) d ++ member_leaves lead ms

-- ---- for private clauses: the members of an object that has any

abbrev pub has_members : Members → Bool
has_members no_members = false
has_members (member k d ms) = true

abbrev pub inner_of : Data → Option Members
inner_of null = None
inner_of (boolean b) = None
inner_of (number n) = None
inner_of (string s) = None
inner_of (array ds) = None
inner_of (object ms) = if has_members ms then Some ms else None

-- ---- all of them

abbrev pub leaves_of : Option Members → List (List ℕ)
leaves_of None = []
leaves_of (Some ms) = member_leaves [] ms

-- all but what names the object, its version and its UID, and whether it is marked
abbrev pub object_leaves : Object → List (List ℕ)
object_leaves o = leaves_of (as_object o.body) ++ (codes "metadata.generation " ++ decimal o.meta.generation) ∷ []

-- ---- the same with the object's name

abbrev pub named : (name words : List ℕ) → List ℕ
named name words = name ++ 32 ∷ words

abbrev pub all_named : (name : List ℕ) → List (List ℕ) → List (List ℕ)
all_named name [] = []
all_named name (t ∷ ts) = named name t ∷ all_named name ts

abbrev pub time_leaf : (at : List ℕ) → List ℕ
time_leaf at = leaf (codes "metadata.deletionTimestamp") (string at)

abbrev pub deletion_texts : (name : List ℕ) → Option (List ℕ) → List (List ℕ)
deletion_texts name None = []
deletion_texts name (Some at) = named name (codes "marked") ∷ named name (time_leaf at) ∷ []

-- the name, and what else is true of the object
abbrev pub object_texts : Object → List (List ℕ)
object_texts o = key_text o.key ∷ deletion_texts (key_text o.key) o.meta.deletion ++ all_named (key_text o.key) (object_leaves o)

-- how many of the texts are this one
abbrev pub times : List (List ℕ) → List ℕ → ℕ
times [] t = 0
times (x ∷ xs) t = (if bytes_eq x t then 1 else 0) + times xs t

-- of how many of the objects it is true
abbrev pub times_among : List Object → List ℕ → ℕ
times_among [] t = 0
times_among (o ∷ os) t = times (object_texts o) t + times_among os t

-- ---- the first object of a name

-- the lower of two UIDs, of which either may be missing
abbrev pub lower : Option ℕ → Option ℕ → Option ℕ
lower None y = y
lower (Some m) None = Some m
lower (Some m) (Some n) = if nat_lt n m then Some n else Some m

abbrev pub uid_if : (is_named : Bool) → (uid : ℕ) → Option ℕ
uid_if true uid = Some uid
uid_if false uid = None

-- the lowest UID of an object of this name: UIDs rise, so the first one has it
abbrev pub first_among : List Object → (name : List ℕ) → Option ℕ
first_among [] t = None
first_among (o ∷ os) t = lower (uid_if (bytes_eq (key_text o.key) t) o.meta.uid) (first_among os t)

-- ---- what is said

-- what is known of all shown objects: of how many each text is true; and the first object of each name, at the
-- beginning and in what is shown of the same end
pub record Known : Type 0 where
  pub counts : List ℕ → ℕ
  pub begun : List ℕ → Option ℕ
  pub here : List ℕ → Option ℕ

abbrev pub is_above : (uid : ℕ) → (first : Option ℕ) → Bool
is_above uid None = false
is_above uid (Some first) = nat_lt first uid

-- an object of its name was there before it
abbrev pub is_anew : Known → (name : List ℕ) → (uid : ℕ) → Bool
is_anew k name uid = is_above uid (k.begun name) || is_above uid (k.here name)

-- some objects of which the one text is true lack the other
abbrev pub differs : Known → (base text : List ℕ) → Bool
differs k base text = not (k.counts base == k.counts text)

abbrev pub anew_marks : Bool → List (List ℕ)
anew_marks true = codes "made anew" ∷ []
anew_marks false = []

abbrev pub if_told : (is_told : Bool) → List ℕ → List (List ℕ)
if_told true t = t ∷ []
if_told false t = []

-- the time only if not all marked objects of the name have it
abbrev pub deletion_marks : Known → (name : List ℕ) → Option (List ℕ) → List (List ℕ)
deletion_marks k name None = []
deletion_marks k name (Some at) =
    codes "marked" ∷ if_told (differs k (named name (codes "marked")) (named name (time_leaf at))) (time_leaf at)

-- the members that not all objects of the name have
abbrev pub told_leaves : Known → (name : List ℕ) → List (List ℕ) → List (List ℕ)
told_leaves k name [] = []
told_leaves k name (t ∷ ts) = if_told (differs k name (named name t)) t ++ told_leaves k name ts

abbrev pub marks_of : Known → Object → List (List ℕ)
marks_of k o =
    (anew_marks (is_anew k (key_text o.key) o.meta.uid) ++ deletion_marks k (key_text o.key) o.meta.deletion)
    ++ told_leaves k (key_text o.key) (object_leaves o)

-- with a comma before each
abbrev pub joined : List (List ℕ) → List ℕ
joined [] = []
joined (t ∷ ts) = codes ", " ++ (t ++ joined ts)

-- ` (marked, status.phase "Ready")`, or nothing
abbrev pub in_brackets : List (List ℕ) → List ℕ
in_brackets [] = []
in_brackets (t ∷ ts) = codes " (" ++ (t ++ (joined ts ++ codes ")"))

abbrev pub marks_words : Known → Object → List ℕ
marks_words k o = in_brackets (marks_of k o)

-- `web-0 (marked)`
abbrev pub name_words : Known → Object → List ℕ
name_words k o = o.key.name ++ marks_words k o

-- a namespace only if it is another than `default`
abbrev pub place_words : (namespace : List ℕ) → List ℕ
place_words namespace = if bytes_eq namespace (codes "default") then [] else namespace ++ codes "/"

-- `Pod web-0 (marked)`
abbrev pub kind_words : Known → Object → List ℕ
kind_words k o = (kind_name o.key.kind ++ codes " ") ++ (place_words o.key.namespace ++ name_words k o)

-- ---- the words with which an end is compared

-- the object as all know it who know nothing of versions and UIDs: 1 stands for the UID of one that is made anew
abbrev pub alike : Known → Object → Object
alike k o = record o { meta = record (o.meta) { uid = if is_anew k (key_text o.key) o.meta.uid then 1 else 0; revision = 0 } }

-- ---- for private clauses: what a map of numbers has

abbrev pub is_lower : (number : ℕ) → (noted : Option ℕ) → Bool
is_lower n None = true
is_lower n (Some m) = nat_lt n m

abbrev pub number_in : List (Vec ℕ × ℕ) → List ℕ → Option ℕ
number_in entries t = lookup (λ (k : Vec ℕ). bytes_eq t k.items) entries

abbrev pub times_in : List (Vec ℕ × ℕ) → List ℕ → ℕ
times_in entries t = unwrap_or (number_in entries t) 0

abbrev pub known_of : KnownNumbers → Known
known_of k = record { counts = times_in k.counts.now.entries; begun = number_in k.begun.now.entries; here = number_in k.here.now.entries }

-- Ends in words, as `1: caller 1: create Pod/default/a: Created; caller 2: create Pod/default/a: AlreadyExists`: each
-- caller's request, and what became of it; as `2: StatefulSet web (status.replicas 1), Pod web-0`, the store; or both. Ends
-- that are the same but for versions and UIDs have one line, with the number of the first. The last line says how many
-- lines there are, and how many ends.
use Rattle.std.specs.Prelude.{◌≡◌, ◌≢◌, ◌<◌, ℕ, Bool, ◌+◌, ◌==◌, List, [], ◌∷◌, ◌++◌, length, map, bytes_eq, codes, decimal, Option, Some, None, if◌then◌else◌}
use Rattle.std.specs.List.{All, AllPairs, Contains, list_any, slice_get}
use Rattle.objects.specs.declared.object.Object.{Object}
use Rattle.objects.specs.Text.{text}
use Rattle.requests.specs.declared.reply.Reply.{Reply}
use Rattle.requests.specs.declared.reply.Reply.TheVariants.{Created, Found, Listed, Updated, Unchanged, Marked, Removed, Compacted, Refused}
use Rattle.requests.specs.Reasons.{reason_name}
use Rattle.outcomes.specs.Names.{objects_of}
use Rattle.participants.specs.declared.told.Told.{Told}
use Rattle.participants.specs.declared.told.Told.TheVariants.{Heard, Unasked, Unheard}
use Rattle.explorer.specs.declared.race.End.{End}
use Rattle.race_lines.specs.declared.question.AskedRace.{AskedRace}
use Rattle.race_lines.specs.declared.question.Question.{Question}
use Rattle.race_lines.specs.declared.question.Question.TheVariants as question
use Rattle.outcome_lines.specs.AskedWords.{all_words}
use Rattle.outcome_lines.specs.Lined.{every_told}
use Rattle.race_lines.specs.Questions.{told_lists}
use Rattle.outcome_lines.specs.ObjectWords.{Known, alike, first_among, kind_words, lower, marks_words, name_words, times_among}
use Rattle.outcome_lines.specs.Stores.{objects_in}

-- ---- what replies show

abbrev pub told_objects : Told → List Object
told_objects (Heard r) = objects_of r
told_objects Unasked = []
told_objects Unheard = []

-- of how many of the objects that callers are told a text is true
abbrev pub times_told : List Told → List ℕ → ℕ
times_told [] t = 0
times_told (x ∷ told) t = times_among (told_objects x) t + times_told told t

-- the first object of a name among those that callers are told
abbrev pub first_told : List Told → (name : List ℕ) → Option ℕ
first_told [] t = None
first_told (x ∷ told) t = lower (first_among (told_objects x) t) (first_told told t)

-- the same of the objects that replies show
abbrev pub times_shown : List Reply → List ℕ → ℕ
times_shown [] t = 0
times_shown (r ∷ rs) t = times_among (objects_of r) t + times_shown rs t

abbrev pub first_shown : List Reply → (name : List ℕ) → Option ℕ
first_shown [] t = None
first_shown (r ∷ rs) t = lower (first_among (objects_of r) t) (first_shown rs t)

-- the same of both
abbrev pub first_in : List Told → List Reply → (name : List ℕ) → Option ℕ
first_in told shown t = lower (first_shown shown t) (first_told told t)

-- ---- what callers are told

-- the names of objects, with this text before the first and a comma before each other
abbrev pub names_words : Known → (lead : List ℕ) → List Object → List ℕ
names_words k lead [] = []
names_words k lead (o ∷ os) = lead ++ (name_words k o ++ names_words k (codes ", ") os)

-- `Listed a, b`. No name has a space, so none reads as an empty list.
abbrev pub listed_words : Known → List Object → List ℕ
listed_words k [] = codes "Listed no object"
listed_words k (o ∷ os) = codes "Listed" ++ names_words k (codes " ") (o ∷ os)

-- of an object its marks, since the request has its name
abbrev pub answer_words : Known → Reply → List ℕ
answer_words k (Created o) = codes "Created" ++ marks_words k o
answer_words k (Found o) = codes "Found" ++ marks_words k o
answer_words k (Listed os revision) = listed_words k os
answer_words k (Updated o) = codes "Updated" ++ marks_words k o
answer_words k (Unchanged o) = codes "Unchanged" ++ marks_words k o
answer_words k (Marked o) = codes "Marked" ++ marks_words k o
answer_words k (Removed o) = codes "Removed" ++ marks_words k o
answer_words k (Compacted revision) = codes "Compacted"
answer_words k (Refused reason) = reason_name reason

-- a caller that crashes within a request gets no reply
abbrev pub told_words : Known → Told → List ℕ
told_words k (Heard reply) = answer_words k reply
told_words k Unasked = codes "not sent"
told_words k Unheard = codes "no reply"

-- requests by their words, and what became of each, with this text before the first and a semicolon before each other
abbrev pub exchanges_words : Known → (lead : List ℕ) → (requests : List (List ℕ)) → List Told → List ℕ
exchanges_words k lead [] told = []
exchanges_words k lead (r ∷ requests) [] = []
exchanges_words k lead (r ∷ requests) (t ∷ told) = lead ++ ((r ++ told_words k t) ++ exchanges_words k (codes "; ") requests told)

-- ---- which store is left

-- `StatefulSet web, Pod web-0`, with this text before the first and a comma before each other
abbrev pub kinds_words : Known → (lead : List ℕ) → List Object → List ℕ
kinds_words k lead [] = []
kinds_words k lead (o ∷ os) = lead ++ (kind_words k o ++ kinds_words k (codes ", ") os)

abbrev pub objects_words : Known → List Object → List ℕ
objects_words k [] = codes " no object"
objects_words k (o ∷ os) = kinds_words k (codes " ") (o ∷ os)

-- ---- which are the same but for versions and UIDs

-- the text of each object without its version and its UID, but for whether it is made anew; each on a line
abbrev pub alike_texts : Known → List Object → List ℕ
alike_texts k [] = []
alike_texts k (o ∷ os) = (text (alike k o) ++ 10 ∷ []) ++ alike_texts k os

abbrev pub reply_word : Reply → List ℕ
reply_word (Created o) = codes "Created"
reply_word (Found o) = codes "Found"
reply_word (Listed os revision) = codes "Listed"
reply_word (Updated o) = codes "Updated"
reply_word (Unchanged o) = codes "Unchanged"
reply_word (Marked o) = codes "Marked"
reply_word (Removed o) = codes "Removed"
reply_word (Compacted revision) = codes "Compacted"
reply_word (Refused reason) = reason_name reason

abbrev pub told_word : Told → List ℕ
told_word (Heard reply) = reply_word reply
told_word Unasked = codes "not sent"
told_word Unheard = codes "no reply"

abbrev pub told_key : Known → Told → List ℕ
told_key k t = (told_word t ++ codes "\n") ++ alike_texts k (told_objects t)

abbrev pub replies_key : Known → List Told → List ℕ
replies_key k [] = []
replies_key k (t ∷ told) = told_key k t ++ replies_key k told

-- ---- ends, each once

-- What is said of an end. Two ends are the same but for versions and UIDs if they have one key.
pub record Said : Type 0 where
  pub key : List ℕ
  pub words : List ℕ

-- with its number
pub record Numbered : Type 0 where
  pub number : ℕ
  pub said : Said

-- the text is one of these
abbrev pub is_among : (texts : List (List ℕ)) → (text : List ℕ) → Bool
is_among texts text = list_any (bytes_eq text) texts

-- the ends whose keys are none of the earlier ones, each with its number, counted from this one on
abbrev pub firsts : (earlier : List (List ℕ)) → (number : ℕ) → List Said → List Numbered
firsts earlier n [] = []
firsts earlier n (s ∷ ss) =
    if is_among earlier s.key then firsts (s.key ∷ earlier) (n + 1) ss else record { number = n; said = s } ∷ firsts (s.key ∷ earlier) (n + 1) ss

-- ---- all lines

abbrev pub brief_line : (number : ℕ) → (words : List ℕ) → List ℕ
brief_line n words = (decimal n ++ codes ":") ++ (words ++ codes "\n")

abbrev pub brief_lines : List Numbered → List ℕ
brief_lines [] = []
brief_lines (t ∷ ts) = brief_line t.number t.said.words ++ brief_lines ts

-- `1 outcome`, `2 outcomes`
abbrev pub counted : (noun : List ℕ) → ℕ → List ℕ
counted noun n = if n == 1 then decimal n ++ (codes " " ++ noun) else decimal n ++ (codes " " ++ (noun ++ codes "s"))

-- `3 outcomes, 120 with their versions`
abbrev pub brief_count : (noun : List ℕ) → (apart all : ℕ) → List ℕ
brief_count noun apart all = counted noun apart ++ (codes ", " ++ (decimal all ++ codes " with their versions\n"))

-- those that are told apart, by the numbers of the first of each, and how many there are
abbrev pub brief_text : (noun : List ℕ) → (all : ℕ) → List Said → List ℕ
brief_text noun all ends = let apart = firsts [] 1 ends in brief_lines apart ++ brief_count noun (length apart) all

-- ---- the ends of a race

abbrev pub known_by : (counts : List ℕ → ℕ) → (begun : List ℕ → Option ℕ) → List Told → List Reply → Known
known_by counts begun told shown = record { counts = counts; begun = begun; here = first_in told shown }

-- the store comes behind what callers are told, if they are told anything
abbrev pub store_lead : (requests : List (List ℕ)) → List ℕ
store_lead [] = codes " store:"
store_lead (r ∷ requests) = codes "; store:"

abbrev pub both_words : Known → (requests : List (List ℕ)) → List Told → List Reply → List ℕ
both_words k requests told shown = exchanges_words k (codes " ") requests told ++ (store_lead requests ++ objects_words k (objects_in shown))

abbrev pub words_by : Question → Known → (requests : List (List ℕ)) → List Told → List Reply → List ℕ
words_by question.Told k requests told shown = exchanges_words k (codes " ") requests told
words_by question.Stores k requests told shown = objects_words k (objects_in shown)
words_by question.Both k requests told shown = both_words k requests told shown

abbrev pub key_by : Known → List Told → List Reply → List ℕ
key_by k told shown = (replies_key k told ++ codes "store\n") ++ alike_texts k (objects_in shown)

-- what is said of an end by what it shows
abbrev pub said_by : Question → (counts : List ℕ → ℕ) → (begun : List ℕ → Option ℕ) → (requests : List (List ℕ)) → List Told → List Reply → Said
said_by q counts begun requests told shown = let k = known_by counts begun told shown in record { key = key_by k told shown; words = words_by q k requests told shown }

abbrev pub told_of : AskedRace → End → List Told
told_of a e = every_told a.sent.items (told_lists e.told.items)

abbrev pub end_said : Question → (counts : List ℕ → ℕ) → (begun : List ℕ → Option ℕ) → AskedRace → End → Said
end_said q counts begun a e = said_by q counts begun (all_words a.race.participants.items a.sent.items) (told_of a e) e.looks.items

abbrev pub ends_said : Question → (counts : List ℕ → ℕ) → (begun : List ℕ → Option ℕ) → AskedRace → List End → List Said
ends_said q counts begun a found = map (end_said q counts begun a) found

-- of how many of the objects that these ends show a text is true
abbrev pub times_found : AskedRace → List End → List ℕ → ℕ
times_found a [] t = 0
times_found a (e ∷ found) t = (times_told (told_of a e) t + times_shown e.looks.items t) + times_found a found t

abbrev pub noun : Question → List ℕ
noun question.Told = codes "outcome"
noun question.Stores = codes "store"
noun question.Both = codes "end"

-- given what lists show of the objects at the beginning
abbrev pub ends_brief_text : Question → AskedRace → (begun : List Reply) → List End → List ℕ
ends_brief_text q a begun found = brief_text (noun q) (length found) (ends_said q (times_found a found) (first_shown begun) a found)

-- ---- what the lines are

-- it is the end at this index, numbered from 1, and none before has its key
pub record IsFirst (ends : List Said) (line : Numbered) : Type 0 where
  pub index : ℕ
  pub number : line.number ≡ index + 1
  pub is : slice_get ends index ≡ Some line.said
  pub first : (earlier : ℕ) (s : Said) → earlier < index → slice_get ends earlier ≡ Some s → s.key ≢ line.said.key

-- each end has a line, and no two lines are of ends that are the same but for versions and UIDs
pub record AreToldOnce (ends : List Said) (lines : List Numbered) : Type 0 where
  pub each : All (IsFirst ends) lines
  pub all : (s : Said) → Contains ends s → Contains (map (λ (line : Numbered). line.said.key) lines) s.key
  pub once : AllPairs (λ (x y : Numbered). x.said.key ≢ y.said.key) lines

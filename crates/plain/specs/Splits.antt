-- Lines are answered as their bytes come. Some bytes wait for the end of their line, and of a line that is too long
-- only a prefix is kept.
use Rattle.std.specs.Prelude.{◌≡◌, ◌≢◌, ◌<◌, ◌⊎◌, ℕ, ◌+◌, ◌-◌, List, [], ◌∷◌, ◌++◌, length, take}
use Rattle.objects.specs.Reading.{most_bytes}
use Rattle.plain_store.specs.Store.{Store}
use Rattle.plain.specs.Lines.{ended_lines, lines}
use Rattle.plain.specs.Served.{answer, answers}

-- there is no line feed among these bytes
abbrev pub NoFeed : List ℕ → Type 0
NoFeed [] = Unit {0}
NoFeed (b ∷ bs) = (b ≢ 10) × NoFeed bs

-- these bytes are kept and more follow: one byte past the most shows that a line is too long
abbrev pub with_pending : List ℕ → List ℕ → List ℕ
with_pending pending bytes = pending ++ take (most_bytes + 1 - length pending) bytes

-- how far the answering of an input has come: the store, the bytes that wait, the text of the replies so far and the
-- number of the lines so far
pub record Progress : Type 0 where
  pub store : Store
  pub waiting : List ℕ
  pub text : List ℕ
  pub count : ℕ

-- the text of all replies, if these bytes and no more follow
abbrev pub text_with : Progress → List ℕ → List ℕ
text_with p more = p.text ++ answers p.store (lines (p.waiting ++ more))

-- the text of the replies to the lines that end, if these bytes follow
abbrev pub ended_with : Progress → List ℕ → List ℕ
ended_with p more = p.text ++ answers p.store (ended_lines (p.waiting ++ more))

-- the number of all lines, if these bytes and no more follow
abbrev pub count_with : Progress → List ℕ → ℕ
count_with p more = p.count + length (lines (p.waiting ++ more))

-- all are the same, whatever follows
pub record LeadsTo (p q : Progress) : Type 0 where
  pub text : (more : List ℕ) → text_with p more ≡ text_with q more
  pub ended : (more : List ℕ) → ended_with p more ≡ ended_with q more
  pub count : (more : List ℕ) → count_with p more ≡ count_with q more

-- after these bytes there is the reply to one line
abbrev pub EndsInReply : List ℕ → List ℕ → Type 0
EndsInReply first text = (s : Store) × (line : List ℕ) × (text ≡ first ++ ((answer s line).1 ++ 10 ∷ []))

-- of these replies, all but the last are fewer bytes than so many
abbrev pub FewBefore : ℕ → List ℕ → Type 0
FewBefore most text = (first : List ℕ) × (length first < most) × ((text ≡ first) ⊎ EndsInReply first text)

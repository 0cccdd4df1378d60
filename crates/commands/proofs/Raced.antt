-- What was written of a race: its history, if that is requested, and the line of its report.
use Rattle.std.proofs.Common.{◌≡◌, ℕ, List, ◌++◌, Option, ap, subst, ◌∙◌, append_assoc}
use Rattle.plain.specs.Streams.{Puts, PutsPart}
use Rattle.plain.proofs.Flows.{PutsPart-after, Puts-then}

-- after a prefix more was to come
pub part_of_more : (old new : Option (List ℕ)) (bytes more : List ℕ) → PutsPart old bytes new → PutsPart old (bytes ++ more) new
part_of_more old new bytes more (part, rest, e, p) = (part, rest ++ more, ap (λ t. t ++ more) e ∙ append_assoc part rest more, p)

-- all of it, or a prefix, was written after what was written first, as it is shown
pub all_behind : (old now new : Option (List ℕ)) (first text shown : List ℕ) → Puts old first now → shown ≡ text → Puts now shown new
    → Puts old (first ++ text) new
all_behind old now new first text shown put same next = Puts-then old now new first text put (subst (λ t. Puts now t new) same next)

pub part_behind : (old now new : Option (List ℕ)) (first text shown : List ℕ) → Puts old first now → shown ≡ text → PutsPart now shown new
    → PutsPart old (first ++ text) new
part_behind old now new first text shown put same next = PutsPart-after old now new first text put (subst (λ t. PutsPart now t new) same next)

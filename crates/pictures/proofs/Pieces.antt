-- A line whose words were appended to its start.
use Rattle.std.proofs.Common.{◌≡◌, ℕ, List, [], ◌++◌, codes, decimal, ap, ◌∙◌, append_assoc}
use Rattle.pictures.specs.Lines.{frontier_to_caller, note_over_caller, labelled}

labelled_on : (place : ℕ) (text : List ℕ) → labelled place [] ++ text ≡ labelled place text
labelled_on place text = ap (λ t. codes ": " ++ t) (append_assoc (decimal place) (codes ": ") text)

noted_on : (c place : ℕ) (text : List ℕ) → note_over_caller c place [] ++ text ≡ note_over_caller c place text
noted_on c place text =
    ap (λ t. codes "    Note over C" ++ t) (append_assoc (decimal c) (labelled place []) text ∙ ap (λ t. decimal c ++ t) (labelled_on place text))

from_frontier_on : (c place : ℕ) (text : List ℕ) → frontier_to_caller c place [] ++ text ≡ frontier_to_caller c place text
from_frontier_on c place text =
    ap (λ t. codes "    F-->>C" ++ t) (append_assoc (decimal c) (labelled place []) text ∙ ap (λ t. decimal c ++ t) (labelled_on place text))

-- what was put in three pieces
pub three : (old one two new a b c : List ℕ) → one ≡ old ++ a → two ≡ one ++ b → new ≡ two ++ c → new ≡ old ++ (a ++ (b ++ c))
three old one two new a b c first second third =
    third ∙ ap (λ t. t ++ c) (second ∙ ap (λ t. t ++ b) first ∙ append_assoc old a b)
    ∙ append_assoc old (a ++ b) c ∙ ap (λ t. old ++ t) (append_assoc a b c)

pub noted : (old one two new words : List ℕ) (c place : ℕ) → one ≡ old ++ note_over_caller c place [] → two ≡ one ++ words → new ≡ two ++ codes "\n"
    → new ≡ old ++ note_over_caller c place (words ++ codes "\n")
noted old one two new words c place first second third =
    three old one two new (note_over_caller c place []) words (codes "\n") first second third ∙ ap (λ t. old ++ t) (noted_on c place (words ++ codes "\n"))

pub from_frontier : (old one two new words : List ℕ) (c place : ℕ) → one ≡ old ++ frontier_to_caller c place [] → two ≡ one ++ words → new ≡ two ++ codes "\n"
    → new ≡ old ++ frontier_to_caller c place (words ++ codes "\n")
from_frontier old one two new words c place first second third =
    three old one two new (frontier_to_caller c place []) words (codes "\n") first second third ∙ ap (λ t. old ++ t) (from_frontier_on c place (words ++ codes "\n"))

-- the line of a caller
pub introduced : (old one two new role : List ℕ) (c : ℕ) → one ≡ old ++ (codes "    participant C" ++ (decimal c ++ codes " as ")) → two ≡ one ++ role
    → new ≡ two ++ (codes "caller " ++ (decimal c ++ codes "\n"))
    → new ≡ old ++ (codes "    participant C" ++ (decimal c ++ (codes " as " ++ (role ++ (codes "caller " ++ (decimal c ++ codes "\n"))))))
introduced old one two new role c first second third =
    let last = codes "caller " ++ (decimal c ++ codes "\n") in
    three old one two new (codes "    participant C" ++ (decimal c ++ codes " as ")) role last first second third
    ∙ ap (λ t. old ++ (codes "    participant C" ++ t)) (append_assoc (decimal c) (codes " as ") (role ++ last))

-- what was put in four pieces
pub four : (old one two three_of new a b c d : List ℕ) → one ≡ old ++ a → two ≡ one ++ b → three_of ≡ two ++ c → new ≡ three_of ++ d
    → new ≡ old ++ (a ++ (b ++ (c ++ d)))
four old one two three_of new a b c d first second third fourth =
    fourth ∙ ap (λ t. t ++ d) (three old one two three_of a b c first second third) ∙ append_assoc old (a ++ (b ++ c)) d
    ∙ ap (λ t. old ++ t) (append_assoc a (b ++ c) d ∙ ap (λ t. a ++ t) (append_assoc b c d))

-- what was put in two pieces
pub two : (old one new a b : List ℕ) → one ≡ old ++ a → new ≡ one ++ b → new ≡ old ++ (a ++ b)
two old one new a b first second = second ∙ ap (λ t. t ++ b) first ∙ append_assoc old a b

-- what was put in five pieces
pub five : (old one two_of three_of four_of new a b c d e : List ℕ) → one ≡ old ++ a → two_of ≡ one ++ b → three_of ≡ two_of ++ c → four_of ≡ three_of ++ d
    → new ≡ four_of ++ e → new ≡ old ++ (a ++ (b ++ (c ++ (d ++ e))))
five old one two_of three_of four_of new a b c d e first second third fourth fifth =
    fifth ∙ ap (λ t. t ++ e) (four old one two_of three_of four_of a b c d first second third fourth) ∙ append_assoc old (a ++ (b ++ (c ++ d))) e
    ∙ ap (λ t. old ++ t) (append_assoc a (b ++ (c ++ d)) e ∙ ap (λ t. a ++ t) (append_assoc b (c ++ d) e ∙ ap (λ t. b ++ t) (append_assoc c d e)))

-- the caller of a write
pub asker_put : (old one two_of new role : List ℕ) (place caller : ℕ) → one ≡ old ++ (decimal place ++ codes ": ") → two_of ≡ one ++ role
    → new ≡ two_of ++ (codes "caller " ++ (decimal caller ++ codes ": "))
    → new ≡ old ++ (decimal place ++ (codes ": " ++ (role ++ (codes "caller " ++ (decimal caller ++ codes ": ")))))
asker_put old one two_of new role place caller first second third =
    let begin = decimal place ++ codes ": " in
    let last = codes "caller " ++ (decimal caller ++ codes ": ") in
    two old two_of new (begin ++ role) last (two old one two_of begin role first second) third
    ∙ ap (λ t. old ++ t) (append_assoc begin role last ∙ append_assoc (decimal place) (codes ": ") (role ++ last))

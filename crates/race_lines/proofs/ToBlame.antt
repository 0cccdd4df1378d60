-- If a text has no race, a line is to blame.
use Rattle.std.proofs.Common.{◌≡◌, ◌∙◌, ◌+◌, ◌∷◌, ℕ, [], List, Option, Some, None, true, refl, sym, ap}
use Rattle.std.specs.Prelude.{is_some}
use Rattle.std.specs.Option.{option_map_or}
use Rattle.std.proofs.lemmas.Option.{none-some}
use Rattle.plain.specs.Lines.{lines}
use Rattle.scripts.specs.Events.{◌>>=◌}
use Rattle.race_lines.specs.RaceLines.{line_of}
use Rattle.race_lines.specs.RaceTexts.{RaceParts, opened, race_by, race_of, with_line, with_lines}
use Rattle.race_lines.specs.RefusedLines.{refused_by, refused_from, refused_line_of}

-- of what cannot be read, the part here or what is left is refused
begun : {P : Type 0} (rest : P → Option P) (refuse : P → Option ℕ) (n : ℕ) → ((p : P) → rest p ≡ None → is_some (refuse p) ≡ true)
    → (part : Option P) → (part >>= rest) ≡ None → is_some (option_map_or refuse part (Some n)) ≡ true
begun rest refuse n left None none = refl
begun rest refuse n left (Some p) none = left p none

-- the same with one more line
longer : {P L : Type 0} (put : L → Option P) (rest : P → Option P) (refuse : P → Option ℕ) (n : ℕ) → ((p : P) → rest p ≡ None → is_some (refuse p) ≡ true)
    → (line : Option L) → (line >>= λ l. put l >>= rest) ≡ None → is_some (option_map_or refuse (line >>= put) (Some n)) ≡ true
longer put rest refuse n left None none = refl
longer put rest refuse n left (Some l) none = begun rest refuse n left (put l) none

in_lines : (ls : List (List ℕ)) (n : ℕ) (p : RaceParts) → with_lines p n ls ≡ None → is_some (refused_from p n ls) ≡ true
in_lines [] n p none = absurd (none-some (record p { read = n }) (sym none))
in_lines (l ∷ ls) n p none =
    longer (with_line p n) (λ q. with_lines q (n + 1) ls) (λ q. refused_from q (n + 1) ls) (n + 2) (in_lines ls (n + 1)) (line_of l) none

in_all : (ls : List (List ℕ)) → race_by ls ≡ None → is_some (refused_by ls) ≡ true
in_all [] none = refl
in_all (first ∷ rest) none = begun (λ p. with_lines p 0 rest) (λ p. refused_from p 0 rest) 1 (in_lines rest 0) (opened first) none

pub blames_a_line : (text : List ℕ) (line : Option ℕ) → line ≡ refused_line_of text → race_of text ≡ None → is_some line ≡ true
unfolding race_of
blames_a_line text line is none = ap is_some is ∙ in_all (lines text) none

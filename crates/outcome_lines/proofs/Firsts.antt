-- The lines of a list of ends, end by end.
use Rattle.std.proofs.Common.{◌++◌, ◌+◌, ◌<◌, ◌||◌, ◌∙◌, ◌∷◌, ◌≡◌, ◌≤◌, ℕ, [], Bool, List, add-one, ap, append_assoc, drop, false, get_or, length, map, not, refl, suc, sym, true, arith}
use Rattle.std.specs.Prelude.{bytes_eq, if◌then◌else◌}
use Rattle.std.proofs.Math.Seq.{drop-cons}
use Rattle.std.proofs.lemmas.List.{drop-map}
use Rattle.outcome_lines.specs.Brief.{Numbered, Said, brief_line, brief_lines, firsts, is_among}

-- the lines of the ends before the index and the rest are together all lines
pub record AreTold (ends : List Said) (at : ℕ) (knows : List ℕ → Bool) (out : List ℕ) (count : ℕ) : Type 0 where
  pub before : List (List ℕ)
  pub known : (t : List ℕ) → knows t ≡ is_among before t
  pub lines : out ++ brief_lines (firsts before (at + 1) (drop at ends)) ≡ brief_lines (firsts [] 1 ends)
  pub number : count + length (firsts before (at + 1) (drop at ends)) ≡ length (firsts [] 1 ends)
  pub few : count ≤ at

-- what is put of an end
abbrev pub put_by : (new : Bool) → (number : ℕ) → (words : List ℕ) → List ℕ
put_by new n words = if new then brief_line n words else []

-- by how much the number of lines grows
abbrev pub count_by : Bool → ℕ
count_by new = if new then 1 else 0

at_most_one : (new : Bool) → count_by new ≤ 1
at_most_one true = omega arith
at_most_one false = omega arith

-- the lines of one end and of those after it
record IsNext (before : List (List ℕ)) (n : ℕ) (s : Said) (ss : List Said) (new : Bool) : Type 0 where
  lines : put_by new n s.words ++ brief_lines (firsts (s.key ∷ before) (n + 1) ss) ≡ brief_lines (firsts before n (s ∷ ss))
  number : count_by new + length (firsts (s.key ∷ before) (n + 1) ss) ≡ length (firsts before n (s ∷ ss))

next : (before : List (List ℕ)) (n : ℕ) (s : Said) (ss : List Said) (new : Bool) → new ≡ not (is_among before s.key) → IsNext before n s ss new
next before n s ss new e = go (is_among before s.key) refl new e
  where
    rest : List Numbered
    rest = firsts (s.key ∷ before) (n + 1) ss

    go : (b : Bool) → is_among before s.key ≡ b → (new : Bool) → new ≡ not b → IsNext before n s ss new
    go true is true f = absurd cc
    go true is false f = record {
      lines = ap (λ b. brief_lines (if b then rest else record { number = n; said = s } ∷ rest)) (sym is);
      number = (let none : 0 + length rest ≡ length rest = omega arith in none) ∙ ap (λ b. length (if b then rest else record { number = n; said = s } ∷ rest)) (sym is);
    }
    go false is true f = record {
      lines = ap (λ b. brief_lines (if b then rest else record { number = n; said = s } ∷ rest)) (sym is);
      number = (let one : 1 + length rest ≡ length (record { number = n; said = s } ∷ rest) = omega arith in one) ∙ ap (λ b. length (if b then rest else record { number = n; said = s } ∷ rest)) (sym is);
    }
    go false is false f = absurd cc

pub none_told : (ends : List Said) (knows : List ℕ → Bool) → ((t : List ℕ) → knows t ≡ false) → AreTold ends 0 knows [] 0
none_told ends knows none = record { before = []; known = none; lines = refl; number = omega arith; few = omega arith }

pub next_told : (ends : List Said) (at : ℕ) (knows : List ℕ → Bool) (out : List ℕ) (count : ℕ) → AreTold ends at knows out count
    → (s : Said) → drop at ends ≡ s ∷ drop (at + 1) ends
    → (after : List ℕ → Bool) → ((q : List ℕ) → after q ≡ (bytes_eq q s.key || knows q))
    → (new : Bool) → new ≡ not (knows s.key) → (out2 : List ℕ) → out2 ≡ out ++ put_by new (at + 1) s.words → (count2 : ℕ) → count2 ≡ count + count_by new
    → AreTold ends (at + 1) after out2 count2
next_told ends at knows out count h s is after more new e out2 put count2 adds =
    let n = next h.before (at + 1) s (drop (at + 1) ends) new (e ∙ ap not (h.known s.key)) in
    record {
      before = s.key ∷ h.before;
      known = λ q. more q ∙ ap (λ b. bytes_eq q s.key || b) (h.known q);
      lines =
          ap (λ l. l ++ brief_lines (firsts (s.key ∷ h.before) (at + 1 + 1) (drop (at + 1) ends))) put
          ∙ append_assoc out (put_by new (at + 1) s.words) (brief_lines (firsts (s.key ∷ h.before) (at + 1 + 1) (drop (at + 1) ends)))
          ∙ ap (λ l. out ++ l) n.lines
          ∙ ap (λ ss. out ++ brief_lines (firsts h.before (at + 1) ss)) (sym is)
          ∙ h.lines;
      number =
          let whole : length (firsts h.before (at + 1) (s ∷ drop (at + 1) ends)) ≡ length (firsts h.before (at + 1) (drop at ends)) = ap (λ ss. length (firsts h.before (at + 1) ss)) (sym is) in
          omega (arith, adds, n.number, whole, h.number);
      few = let small = at_most_one new in omega (arith, adds, small, h.few);
    }

-- what is said of the element at an index, and of those after it
pub placed : {X : Type 0} (f : X → Said) (xs : List X) (at : ℕ) (x : X) → at < length xs → x ≡ get_or xs at x → drop at (map f xs) ≡ f x ∷ drop (at + 1) (map f xs)
placed f xs at x inside is =
    drop-map f at xs
    ∙ ap (map f) (drop-cons xs at x inside)
    ∙ ap (λ y. f y ∷ map f (drop (suc at) xs)) (sym is)
    ∙ ap (λ ss. f x ∷ ss) (sym (drop-map f (suc at) xs))
    ∙ ap (λ n. f x ∷ drop n (map f xs)) (sym (add-one at))

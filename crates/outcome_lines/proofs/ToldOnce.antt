-- Each end has one line, with the number of the first that has its key.
use Rattle.std.proofs.Common.{◌+◌, ◌<◌, ◌∙◌, ◌∷◌, ◌≡◌, ◌≢◌, ◌⊎◌, ℕ, [], Bool, List, Some, ap, false, inl, inr, map, refl, subst, suc, sym, true, zero, arith}
use Rattle.std.specs.Prelude.{bytes_eq, slice_index_or, unwrap_or, if◌then◌else◌}
use Rattle.std.specs.List.{All, AllPairs, Contains, slice_get}
use Rattle.std.proofs.lemmas.Bool.{or_cases, or_parts}
use Rattle.std.proofs.lemmas.List.Elements.{All-cons, All-nil, All-weaker, Contains-append_cases, Contains-append_right, Contains-get_or}
use Rattle.std.proofs.lemmas.List.Kept.{AllPairs-cons}
use Rattle.std.proofs.lemmas.Slice.Eq.{bytes_eq-Decides}
use Rattle.outcome_lines.specs.Brief.{AreToldOnce, IsFirst, Numbered, Said, firsts, is_among}

-- what a line is for the ends after earlier ones, numbered from n on
record IsFrom (earlier : List (List ℕ)) (n : ℕ) (ends : List Said) (line : Numbered) : Type 0 where
  index : ℕ
  number : line.number ≡ n + index
  is : slice_get ends index ≡ Some line.said
  first : (j : ℕ) (s : Said) → j < index → slice_get ends j ≡ Some s → s.key ≢ line.said.key
  new : is_among earlier line.said.key ≡ false

apart : (t u : List ℕ) → bytes_eq u t ≡ false → t ≢ u
apart t u is e = let same : bytes_eq u t ≡ true = (bytes_eq-Decides u t).1 (sym e) in absurd cc

module _ (earlier : List (List ℕ)) (n : ℕ) (s : Said) (ss : List Said) where
  -- a line of the ends after s
  later : (line : Numbered) → IsFrom (s.key ∷ earlier) (n + 1) ss line → IsFrom earlier n (s ∷ ss) line
  later line from =
      let new = or_parts (bytes_eq line.said.key s.key) (is_among earlier line.said.key) from.new in
      record {
        index = suc from.index;
        number = from.number ∙ (let moved : n + 1 + from.index ≡ n + suc from.index = omega arith in moved);
        is = from.is;
        first = before new.0;
        new = new.1;
      }
    where
      before : bytes_eq line.said.key s.key ≡ false → (j : ℕ) (r : Said) → j < suc from.index → slice_get (s ∷ ss) j ≡ Some r → r.key ≢ line.said.key
      before differs zero r small is e = apart s.key line.said.key differs (ap (λ o. (unwrap_or o s).key) is ∙ e)
      before differs (suc j) r small is e = from.first j r (omega (arith, small)) is e

  own : is_among earlier s.key ≡ false → IsFrom earlier n (s ∷ ss) (record { number = n; said = s })
  own new = record { index = 0; number = omega arith; is = refl; first = λ j r small. absurd (omega (arith, small)); new = new }

-- the lines of an end and of those after it, depending on whether its key is among the earlier ones
abbrev lines_by : (earlier : List (List ℕ)) → (n : ℕ) → (s : Said) → (ss : List Said) → Bool → List Numbered
lines_by earlier n s ss b = if b then firsts (s.key ∷ earlier) (n + 1) ss else record { number = n; said = s } ∷ firsts (s.key ∷ earlier) (n + 1) ss

-- ---- each line is of some end
each_from : (earlier : List (List ℕ)) (n : ℕ) (ends : List Said) → All (IsFrom earlier n ends) (firsts earlier n ends)
each_from earlier n [] = All-nil (IsFrom earlier n [])
each_from earlier n (s ∷ ss) = go (is_among earlier s.key) refl (All-weaker _ (IsFrom earlier n (s ∷ ss)) (later earlier n s ss) _ (each_from (s.key ∷ earlier) (n + 1) ss))
  where
    go : (b : Bool) → is_among earlier s.key ≡ b → All (IsFrom earlier n (s ∷ ss)) (firsts (s.key ∷ earlier) (n + 1) ss) → All (IsFrom earlier n (s ∷ ss)) (lines_by earlier n s ss b)
    go true is rest = rest
    go false is rest = All-cons (IsFrom earlier n (s ∷ ss)) _ _ (own earlier n s ss is) rest

-- ---- each end has its line
abbrev keys_of : List Numbered → List (List ℕ)
keys_of lines = map (λ (line : Numbered). line.said.key) lines

alone : (s r : Said) → Contains (s ∷ []) r → s ≡ r
alone s r has = go has.0 has.1 has.2
  where
    go : (k : ℕ) → k < 1 → slice_index_or (s ∷ []) k r ≡ r → s ≡ r
    go zero small is = is
    go (suc k) small is = absurd (omega (arith, small))

every_from : (earlier : List (List ℕ)) (n : ℕ) (ends : List Said) (r : Said) → Contains ends r
    → (is_among earlier r.key ≡ true) ⊎ Contains (keys_of (firsts earlier n ends)) r.key
every_from earlier n [] r has = absurd (omega (arith, has.1))
every_from earlier n (s ∷ ss) r has = at (Contains-append_cases (s ∷ []) ss r has) (every_from (s.key ∷ earlier) (n + 1) ss r)
  where
    rest_keys : List (List ℕ)
    rest_keys = keys_of (firsts (s.key ∷ earlier) (n + 1) ss)

    here : s.key ≡ r.key → (b : Bool) → is_among earlier s.key ≡ b → (is_among earlier r.key ≡ true) ⊎ Contains (keys_of (lines_by earlier n s ss b)) r.key
    here e true is = inl (ap (is_among earlier) (sym e) ∙ is)
    here e false is = inr (subst (Contains (s.key ∷ rest_keys)) e (Contains-get_or (s.key ∷ rest_keys) 0 s.key (omega arith)))

    behind : Contains rest_keys r.key → (b : Bool) → Contains (keys_of (lines_by earlier n s ss b)) r.key
    behind told true = told
    behind told false = Contains-append_right (s.key ∷ []) rest_keys r.key told

    among : (bytes_eq r.key s.key ≡ true) ⊎ (is_among earlier r.key ≡ true) → (is_among earlier r.key ≡ true) ⊎ Contains (keys_of (firsts earlier n (s ∷ ss))) r.key
    among (inl same) = here (sym ((bytes_eq-Decides r.key s.key).0 same)) (is_among earlier s.key) refl
    among (inr before) = inl before

    next : (is_among (s.key ∷ earlier) r.key ≡ true) ⊎ Contains rest_keys r.key → (is_among earlier r.key ≡ true) ⊎ Contains (keys_of (firsts earlier n (s ∷ ss))) r.key
    next (inl before) = among (or_cases (bytes_eq r.key s.key) (is_among earlier r.key) before)
    next (inr told) = inr (behind told (is_among earlier s.key))

    at : Contains (s ∷ []) r ⊎ Contains ss r → (Contains ss r → (is_among (s.key ∷ earlier) r.key ≡ true) ⊎ Contains rest_keys r.key)
        → (is_among earlier r.key ≡ true) ⊎ Contains (keys_of (firsts earlier n (s ∷ ss))) r.key
    at (inl first) rest = here (ap (λ (x : Said). x.key) (alone s r first)) (is_among earlier s.key) refl
    at (inr later_on) rest = next (rest later_on)

-- ---- no two lines have one key
abbrev Differ : Numbered → Numbered → Type 0
Differ x y = x.said.key ≢ y.said.key

differs : (earlier : List (List ℕ)) (n : ℕ) (s : Said) (ss : List Said) (line : Numbered) → IsFrom (s.key ∷ earlier) (n + 1) ss line → Differ (record { number = n; said = s }) line
differs earlier n s ss line from = apart s.key line.said.key (or_parts (bytes_eq line.said.key s.key) (is_among earlier line.said.key) from.new).0

once_from : (earlier : List (List ℕ)) (n : ℕ) (ends : List Said) → AllPairs Differ (firsts earlier n ends)
once_from earlier n [] = λ i j d below inside. absurd (omega (arith, inside))
once_from earlier n (s ∷ ss) = go (is_among earlier s.key) (once_from (s.key ∷ earlier) (n + 1) ss)
  where
    go : (b : Bool) → AllPairs Differ (firsts (s.key ∷ earlier) (n + 1) ss) → AllPairs Differ (lines_by earlier n s ss b)
    go true rest = rest
    go false rest = AllPairs-cons Differ _ _ (All-weaker _ (Differ (record { number = n; said = s })) (differs earlier n s ss) _ (each_from (s.key ∷ earlier) (n + 1) ss)) rest

from_start : (ends : List Said) (line : Numbered) → IsFrom [] 1 ends line → IsFirst ends line
from_start ends line from =
    record { index = from.index; number = from.number ∙ (let turned : 1 + from.index ≡ from.index + 1 = omega arith in turned); is = from.is; first = from.first }

pub told_once : (ends : List Said) → AreToldOnce ends (firsts [] 1 ends)
told_once ends = record {
  each = All-weaker _ _ (from_start ends) _ (each_from [] 1 ends);
  all = λ s has. every (every_from [] 1 ends s has);
  once = once_from [] 1 ends;
}
  where
    every : {u : List ℕ} → (false ≡ true) ⊎ Contains (map (λ (line : Numbered). line.said.key) (firsts [] 1 ends)) u → Contains (map (λ (line : Numbered). line.said.key) (firsts [] 1 ends)) u
    every (inl never) = absurd cc
    every (inr has) = has

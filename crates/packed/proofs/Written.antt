-- What is written of a delta, piece by piece.
use Rattle.std.proofs.Common.{◌≡◌, ◌==◌, Bool, false, ℕ, zero, suc, ◌+◌, ◌-◌, ◌<◌, ◌≤◌, List, [], ◌∷◌, ◌++◌, length, take, drop, take-append-drop, append_assoc, refl, sym, ap, ap₂, subst, subst₂, append-nil, ◌∙◌, arith}
use Rattle.std.proofs.lemmas.List.{drop-drop, length-drop, take_all}
use Rattle.std.proofs.Math.Seq.{take-add}
use Rattle.packed.specs.Expanded.{pieces, expanded}
use Rattle.packed.specs.Written.{Make, Adds, AreFirst, IsWrittenTo}
use Rattle.packed.specs.declared.meeting.Meeting.{Meeting}
use Rattle.packed.proofs.Pieces.{pieces_first, pieces_short}

front_of : (xs ys : List ℕ) → take (length xs) (xs ++ ys) ≡ xs
front_of [] ys = refl
front_of (x ∷ xs) ys = ap (λ l. x ∷ l) (front_of xs ys)

back_of : (xs ys : List ℕ) → drop (length xs) (xs ++ ys) ≡ ys
back_of [] ys = refl
back_of (x ∷ xs) ys = back_of xs ys

three : (a b c d : List ℕ) → a ++ (b ++ (c ++ d)) ≡ (a ++ (b ++ c)) ++ d
three a b c d = simp append_assoc

-- ---- one piece

pub piece_adds : (skipped copied : ℕ) (added old : List ℕ) → Adds skipped copied added old (old ++ (skipped ∷ copied ∷ length added ∷ added))
piece_adds skipped copied added old = λ base text behind made. λ rest.
    let all = skipped ∷ copied ∷ length added ∷ (added ++ rest) in
    let left = drop copied (drop skipped behind) in
    ap (pieces base 0) (append_assoc old (skipped ∷ copied ∷ length added ∷ added) rest)
    ∙ made all
    ∙ ap (λ l. text ++ l) (pieces_first behind skipped copied (length added) (added ++ rest)
    ∙ ap₂ (λ l r. take copied (drop skipped behind) ++ (l ++ pieces left 0 r)) (front_of added rest) (back_of added rest))
    ∙ three text (take copied (drop skipped behind)) added (pieces left 0 rest)

four : (old added : List ℕ) (skipped copied count : ℕ) → (((old ++ skipped ∷ []) ++ copied ∷ []) ++ count ∷ []) ++ added ≡ old ++ (skipped ∷ copied ∷ count ∷ added)
four old added skipped copied count = simp append_assoc

pub pushed_adds : (skipped copied count : ℕ) (added old one two three new : List ℕ) → one ≡ old ++ skipped ∷ [] → two ≡ one ++ copied ∷ [] → three ≡ two ++ count ∷ [] → new ≡ three ++ added → count ≡ length added
    → Adds skipped copied added old new
pushed_adds skipped copied count added old one two three new a b c d many =
    subst (Adds skipped copied added old) (ap (λ n. old ++ (skipped ∷ copied ∷ n ∷ added)) (sym many) ∙ sym (four old added skipped copied count) ∙ sym (d ∙ ap (λ l. l ++ added) (c ∙ ap (λ l. l ++ count ∷ []) (b ∙ ap (λ l. l ++ copied ∷ []) a)))) (piece_adds skipped copied added old)

-- ---- the first piece and the others

record AreBoth (skipped copied : ℕ) (added : List ℕ) (skip copy add : ℕ) (base : List ℕ) : Type 0 where
  text : (take copy (drop skip base) ++ take add added) ++ (take (copied - copy) (drop (skipped - skip) (drop copy (drop skip base))) ++ drop add added) ≡ take copied (drop skipped base) ++ added
  behind : drop (copied - copy) (drop (skipped - skip) (drop copy (drop skip base))) ≡ drop copied (drop skipped base)

only_skipped : (skipped copied skip : ℕ) (added base : List ℕ) → skip ≤ skipped → AreBoth skipped copied added skip 0 0 base
only_skipped skipped copied skip added base within =
    let all : skip + (skipped - skip) ≡ skipped = omega (arith, within) in
    let left : copied - 0 ≡ copied = omega arith in
    let on = drop-drop (skipped - skip) skip base ∙ ap (λ n. drop n base) all in
    record { text = ap₂ (λ n l. take n l ++ added) left on; behind = ap₂ drop left on }

then_copied : (skipped copied copy : ℕ) (added base : List ℕ) → copy ≤ copied → AreBoth skipped copied added skipped copy 0 base
then_copied skipped copied copy added base within =
    let behind = drop skipped base in
    let none : skipped - skipped ≡ 0 = omega arith in
    let on = ap (λ n. drop n (drop copy behind)) none in
    let all : copy + (copied - copy) ≡ copied = omega (arith, within) in
    record {
      text = ap₂ (λ l r. l ++ (take (copied - copy) r ++ added)) (append-nil (take copy behind)) on ∙ sym (append_assoc (take copy behind) (take (copied - copy) (drop copy behind)) added)
          ∙ ap (λ l. l ++ added) (sym (take-add copy (copied - copy) behind) ∙ ap (λ n. take n behind) all);
      behind = ap (drop (copied - copy)) on ∙ drop-drop (copied - copy) copy behind ∙ ap (λ n. drop n behind) all;
    }

then_added : (skipped copied add : ℕ) (added base : List ℕ) → AreBoth skipped copied added skipped copied add base
then_added skipped copied add added base =
    let behind = drop skipped base in
    let none : skipped - skipped ≡ 0 = omega arith in
    let nothing : copied - copied ≡ 0 = omega arith in
    let on = ap (λ n. drop n (drop copied behind)) none in
    record {
      text = ap₂ (λ n l. (take copied behind ++ take add added) ++ (take n l ++ drop add added)) nothing on
          ∙ append_assoc (take copied behind) (take add added) (drop add added) ∙ ap (λ l. take copied behind ++ l) (take-append-drop add added);
      behind = ap₂ drop nothing on;
    }

both_are : (skipped copied : ℕ) (added : List ℕ) (skip copy add : ℕ) (base : List ℕ) → AreFirst skipped copied (length added) skip copy add → AreBoth skipped copied added skip copy add base
both_are skipped copied added skip zero zero base first = only_skipped skipped copied skip added base first.skips.0
both_are skipped copied added skip (suc k) zero base first =
    subst (λ s. AreBoth skipped copied added s (suc k) 0 base) (sym (first.copies_behind (omega arith))) (then_copied skipped copied (suc k) added base first.copies.0)
both_are skipped copied added skip copy (suc k) base first =
    let behind = first.adds_behind (omega arith) in
    subst₂ (λ s c. AreBoth skipped copied added s c (suc k) base) (sym behind.0) (sym behind.1) (then_added skipped copied (suc k) added base)

pub first_adds : (skipped copied : ℕ) (added old middle new : List ℕ) (skip copy add : ℕ) (front back : List ℕ) → AreFirst skipped copied (length added) skip copy add → front ≡ take add added → back ≡ drop add added
    → Adds skip copy front old middle → Adds (skipped - skip) (copied - copy) back middle new → Adds skipped copied added old new
first_adds skipped copied added old middle new skip copy add front back first here_is later_is here later = λ base text behind made.
    let all = later base (text ++ (take copy (drop skip behind) ++ front)) (drop copy (drop skip behind)) (here base text behind made) in
    let parts = both_are skipped copied added skip copy add behind first in
    subst₂ (Make base new)
    (append_assoc text (take copy (drop skip behind) ++ front) _
    ∙ ap (λ l. text ++ l) (ap₂ (λ f b. (take copy (drop skip behind) ++ f) ++ (take (copied - copy) (drop (skipped - skip) (drop copy (drop skip behind))) ++ b)) here_is later_is ∙ parts.text))
    parts.behind all

nothing_more : (old : List ℕ) → Adds 0 0 [] old old
nothing_more old = λ base text behind made. subst₂ (Make base old) (sym (append-nil text)) refl made

pub nothing_adds : (skipped copied : ℕ) (added old : List ℕ) → skipped ≡ 0 → copied ≡ 0 → length added ≡ 0 → Adds skipped copied added old old
nothing_adds skipped copied [] old a b c = subst₂ (λ n m. Adds n m [] old old) (sym a) (sym b) (nothing_more old)
nothing_adds skipped copied (x ∷ added) old a b c = absurd (omega (arith, c))

-- ---- a stretch

-- what both begin with alike from two positions on, and what only the text has after it
pub stretch_text : (text base : List ℕ) (from same next at : ℕ) → from + same ≤ next → take same (drop at base) ≡ take same (drop from text)
    → take from text ++ (take same (drop at base) ++ take (next - (from + same)) (drop (from + same) text)) ≡ take next text
stretch_text text base from same next at within alike =
    let own = take (next - (from + same)) (drop (from + same) text) in
    let all : from + same + (next - (from + same)) ≡ next = omega (arith, within) in
    ap (λ l. take from text ++ (l ++ own)) alike
    ∙ sym (append_assoc (take from text) (take same (drop from text)) own)
    ∙ ap (λ l. l ++ own) (sym (take-add from same text))
    ∙ sym (take-add (from + same) (next - (from + same)) text)
    ∙ ap (λ n. take n text) all

pub stretch_made : (base text old new : List ℕ) (place met : Meeting) (same : ℕ) (added : List ℕ) → IsWrittenTo base text old place
    → Adds place.skipped same added old new
    → take same (drop place.base base) ≡ take same (drop place.text text)
    → added ≡ take (met.text - (place.text + same)) (drop (place.text + same) text)
    → place.text + same ≤ met.text → met.text ≤ length text → met.base ≤ length base → met.base ≡ place.base + same + met.skipped
    → IsWrittenTo base text new met
stretch_made base text old new place met same added written adds alike own within text_within base_within behind =
    let start = drop (place.base - place.skipped) base in
    let all : place.base - place.skipped + place.skipped ≡ place.base = omega (arith, written.skipped) in
    let on = drop-drop place.skipped (place.base - place.skipped) base ∙ ap (λ n. drop n base) all in
    let last : place.base + same ≡ met.base - met.skipped = omega (arith, behind) in
    record {
      text_within = text_within;
      base_within = base_within;
      skipped = omega (arith, behind);
      made = subst₂ (Make base new)
          (ap₂ (λ l a. take place.text text ++ (take same l ++ a)) on own ∙ stretch_text text base place.text same met.text place.base within alike)
          (ap (drop same) on ∙ drop-drop same place.base base ∙ ap (λ n. drop n base) last)
          (adds base (take place.text text) start written.made);
    }

pub nothing_written : (base text : List ℕ) (patience : ℕ) → IsWrittenTo base text [] (record { text = 0; base = 0; skipped = 0; patience = patience })
nothing_written base text patience = record { text_within = omega arith; base_within = omega arith; skipped = omega arith; made = λ rest. refl }

-- once all of a text is written, that is what the delta encodes
made_whole : (base text delta : List ℕ) → 0 < length text → pieces base 0 delta ≡ text → expanded base delta ≡ text
unfolding expanded
made_whole base text [] some made = absurd (omega (arith, some, ap length (sym made ∙ pieces_short base [] (omega arith))))
made_whole base text (x ∷ delta) some made = made

pub whole_written : (base text delta : List ℕ) (place : Meeting) → 0 < length text → IsWrittenTo base text delta place → place.text ≡ length text → expanded base delta ≡ text
whole_written base text delta place some written all =
    made_whole base text delta some
    (ap (pieces base 0) (sym (append-nil delta)) ∙ written.made [] ∙ ap (λ l. take place.text text ++ l) (pieces_short (drop (place.base - place.skipped) base) [] (omega arith))
    ∙ append-nil (take place.text text) ∙ take_all place.text text (omega (arith, all)))

-- ---- by the tests of the program

pub all_behind : (text : List ℕ) (n : ℕ) → take (length text - n) (drop n text) ≡ drop n text
all_behind text n = take_all (length text - n) (drop n text) (omega (arith, length-drop n text))

pub some_there : (n : ℕ) (none : Bool) → none ≡ (n == 0) → none ≡ false → 0 < n
some_there zero none is fails = absurd cc
some_there (suc n) none is fails = omega arith

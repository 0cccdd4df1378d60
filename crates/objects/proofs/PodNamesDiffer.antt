-- A pod's name is split at its last `-`, since no decimal has one.
use Rattle.std.proofs.Common.{◌≡◌, ◌≢◌, ℕ, ◌^◌, ◌<◌, List, [], ◌∷◌, ◌++◌, length, get_or, drop, true, Some, None, Result, decimal, refl, sym, ap, ◌∙◌, subst, arith, lit<, append_assoc, length-append}
use Rattle.std.specs.Prelude.{codes}
use Rattle.std.specs.Result.{result_ok}
use Rattle.std.specs.Str.{all_ascii_digits}
use Rattle.std.specs.Str.Parse.{digits_value, ParsesUnsigned}
use Rattle.std.specs.Str.Pattern.{RFindsChar, SplitsAroundMatch}
use Rattle.std.proofs.lemmas.Fmt.{decimal_injective, digits_decimal, parse-decimal}
use Rattle.std.proofs.lemmas.List.{append_cancel_right, get_or_at, take-append-drop}
use Rattle.std.proofs.lemmas.Str.Parse.{IsNumeralModel, numerals_by_value, tells_all_ascii_digits, not_in_digits}
use Rattle.std.proofs.lemmas.Str.Pattern.{NoCharPasses-char, drop_at_char}
use Rattle.objects.specs.PodNames.{pod_name, claim_name, IsPodName}

-- no byte is a `-`
abbrev pub LacksDash : List ℕ → Type 0
LacksDash bs = (i : ℕ) → i < length bs → get_or bs i 0 ≢ 45

own : IsNumeralModel (λ ds. all_ascii_digits ds ≡ true) (digits_value 10)
own = numerals_by_value (λ ds. all_ascii_digits ds ≡ true) tells_all_ascii_digits

lacks_dash-decimal : (n : ℕ) → n < 2 ^ 64 → LacksDash (decimal n)
lacks_dash-decimal n small = not_in_digits own (decimal n) 45 (digits_decimal own n small) (λ range. absurd (omega (arith, range.0)))

has_dash : (bs front back : List ℕ) → LacksDash bs → bs ≡ front ++ 45 ∷ back → ⊥
has_dash bs front back lacks is =
    lacks (length front) (rw is (omega (arith, length-append front (45 ∷ back)))) (ap (λ l. get_or l (length front) 0) is ∙ get_or_at front 45 back 0 (length front) refl)

-- a text is split at its last `-` in one way
pub cut_at_last_dash : (a b x y : List ℕ) → LacksDash x → LacksDash y → a ++ 45 ∷ x ≡ b ++ 45 ∷ y → (a ≡ b) × (x ≡ y)
cut_at_last_dash [] [] x y at_x at_y is = (refl, ap (drop 1) is)
cut_at_last_dash [] (d ∷ b) x y at_x at_y is = absurd (has_dash x b y at_x (ap (drop 1) is))
cut_at_last_dash (c ∷ a) [] x y at_x at_y is = absurd (has_dash y a x at_y (ap (drop 1) (sym is)))
cut_at_last_dash (c ∷ a) (d ∷ b) x y at_x at_y is =
    let rest = cut_at_last_dash a b x y at_x at_y (ap (drop 1) is) in
    ((λ i. get_or (is i) 0 0 ∷ rest.0 i), rest.1)

at_dash : (set digits : List ℕ) → set ++ codes "-" ++ digits ≡ set ++ 45 ∷ digits
at_dash set digits = append_assoc set (codes "-") digits

pub pod_names-differ : (s t : List ℕ) (i j : ℕ) → i < 2 ^ 32 → j < 2 ^ 32 → pod_name s i ≡ pod_name t j → (s ≡ t) × (i ≡ j)
pod_names-differ s t i j at_i at_j is =
    let parts = cut_at_last_dash s t (decimal i) (decimal j) (lacks_dash-decimal i (omega arith)) (lacks_dash-decimal j (omega arith))
    (sym (at_dash s (decimal i)) ∙ is ∙ at_dash t (decimal j)) in
    (parts.0, decimal_injective i j (omega arith) (omega arith) parts.1)

-- a claim is called as a pod of the set `TEMPLATE-SET` would be
claim_name-pod_name : (t s : List ℕ) (i : ℕ) → claim_name t s i ≡ pod_name (t ++ codes "-" ++ s) i
claim_name-pod_name t s i =
    sym (append_assoc (t ++ codes "-") (s ++ codes "-") (decimal i)) ∙ ap (λ l. l ++ decimal i) (sym (append_assoc (t ++ codes "-") s (codes "-")))

pub claim_names-differ : (s t u : List ℕ) (i j : ℕ) → i < 2 ^ 32 → j < 2 ^ 32 → claim_name t s i ≡ claim_name u s j → (t ≡ u) × (i ≡ j)
claim_names-differ s t u i j at_i at_j is =
    let parts = pod_names-differ (t ++ codes "-" ++ s) (u ++ codes "-" ++ s) i j at_i at_j (sym (claim_name-pod_name t s i) ∙ is ∙ claim_name-pod_name u s j) in
    (append_cancel_right t u (codes "-") (append_cancel_right (t ++ codes "-") (u ++ codes "-") s parts.0), parts.1)

-- ---- splitting

-- a text with no `-` is no pod's name
pub not_split : (name : List ℕ) → RFindsChar 45 name None → (set : List ℕ) (ordinal : ℕ) → IsPodName name set ordinal → ⊥
not_split name none set ordinal is = has_dash name set (decimal ordinal) (λ i. NoCharPasses-char 45 name i none (lit< tt)) (is.joined ∙ at_dash set (decimal ordinal))

-- what the split at the last `-` gives
pub record IsSplit (name set digits : List ℕ) : Type 0 where
  pub joined : name ≡ set ++ 45 ∷ digits
  pub last : LacksDash digits

pub is_split : (name set digits : List ℕ) → SplitsAroundMatch (RFindsChar 45) name set digits → IsSplit name set digits
is_split name set digits h = record {
  joined = sym (take-append-drop h.0 name) ∙ (λ k. sym h.3 k ++ (drop_at_char 45 name h.0 h.1 h.2.1 (lit< tt) ∙ ap (λ l. 45 ∷ l) (sym h.4)) k);
  last = λ i. NoCharPasses-char 45 digits i (subst (λ l. RFindsChar 45 l None) (sym h.4) h.2.0) (lit< tt);
}

-- the parts of a pod's name are its set and the decimal of its ordinal
pub parts_of_pod_name : (name set digits s : List ℕ) (n : ℕ) → IsSplit name set digits → IsPodName name s n → (set ≡ s) × (digits ≡ decimal n)
parts_of_pod_name name set digits s n split is =
    cut_at_last_dash set s digits (decimal n) split.last (lacks_dash-decimal n (omega (arith, is.fits))) (sym split.joined ∙ is.joined ∙ at_dash s (decimal n))

-- those digits are read as the ordinal
pub result_ok-parsed : {E : Type 0} (name set digits s : List ℕ) (n : ℕ) (r : Result ℕ E) → IsSplit name set digits → IsPodName name s n → ParsesUnsigned 32 10 digits r → result_ok r ≡ Some n
result_ok-parsed name set digits s n r split is parses =
    ap result_ok (parse-decimal 32 n digits r (omega (arith, is.fits)) (omega (arith, is.fits)) (parts_of_pod_name name set digits s n split is).1 parses)

-- a split before a decimal gives a pod's name
pub pod_name-split : (name set digits : List ℕ) (n : ℕ) → IsSplit name set digits → digits ≡ decimal n → name ≡ pod_name set n
pod_name-split name set digits n split is = split.joined ∙ ap (λ l. set ++ 45 ∷ l) is ∙ sym (at_dash set (decimal n))

-- A run of plain bytes is written as it is.
use Rattle.std.proofs.Common.{◌≡◌, ℕ, suc, ◌+◌, ◌-◌, ◌<◌, length, Bool, true, false, cond, List, [], ◌∷◌, ◌++◌, take, drop, take-append-drop, ◌==◌, refl, sym, ap, ◌∙◌, append_assoc, arith}
use Rattle.std.proofs.lemmas.Bool.{or_parts, not-true, eqb-false, ltb-false}
use Rattle.std.proofs.lemmas.List.{length-drop, take_all}
use borrow.Rule.Slice.PartMut.{mid_of}
use Rattle.std.specs.List.{prefix_len}
use Rattle.json.specs.Print.{escape, escape_byte}
use Rattle.json.proofs.Printed.Strings.{escape_byte_plain}
use Rattle.compact.specs.Plain.{is_stop, is_plain}
use Rattle.compact.specs.Begins.{EndsText, EndsPlain, EndsEscape}

plain_byte : (x : ℕ) → is_plain x ≡ true → escape_byte x ≡ x ∷ []
plain_byte x h =
    let none = or_parts _ _ (not-true (is_stop x) h) in
    let tests = or_parts (x == 34) _ none.0 in
    escape_byte_plain x (eqb-false x 34 tests.0) (eqb-false x 92 tests.1) (ltb-false x 32 none.1)

run_at : (b : Bool) (x n : ℕ) (xs : List ℕ) → is_plain x ≡ b → escape (take n xs) ≡ take n xs → escape (take (cond b (1 + n) 0) (x ∷ xs)) ≡ take (cond b (1 + n) 0) (x ∷ xs)
run_at false x n xs h later = refl
run_at true x n xs h later =
    let one : 1 + n ≡ suc n = omega arith in
    ap (λ m. escape (take m (x ∷ xs))) one ∙ ap (λ b. b ++ escape (take n xs)) (plain_byte x h) ∙ ap (λ l. x ∷ l) later ∙ sym (ap (λ m. take m (x ∷ xs)) one)

run_is : (text : List ℕ) → escape (take (prefix_len is_plain text) text) ≡ take (prefix_len is_plain text) text
run_is [] = refl
run_is (x ∷ xs) = run_at (is_plain x) x (prefix_len is_plain xs) xs refl (run_is xs)

rest_of : (text : List ℕ) (n : ℕ) → mid_of n (length text - n) text ≡ drop n text
rest_of text n = take_all (length text - n) (drop n text) (omega (arith, length-drop n text))

pub shorter_behind : (text behind : List ℕ) (n x : ℕ) → mid_of n (length text - n) text ≡ x ∷ behind → length behind < length text
shorter_behind text behind n x next = omega (arith, ap length (sym (rest_of text n) ∙ next), length-drop n text)

pub plain_ends : (text behind : List ℕ) (n x : ℕ) → n ≡ prefix_len is_plain text → mid_of n (length text - n) text ≡ x ∷ behind → x ≡ 34 → EndsPlain text behind
plain_ends text behind n x long next quote = record {
  value = take n text;
  is = sym (take-append-drop n text) ∙ ap (λ l. take n text ++ l) (sym (rest_of text n) ∙ next ∙ ap (λ q. q ∷ behind) quote);
  plain = ap (λ m. escape (take m text)) long ∙ run_is text ∙ ap (λ m. take m text) (sym long);
}

pub as_text : (text rest : List ℕ) → EndsPlain text rest → EndsText text rest
as_text text rest e = record { value = e.value; is = e.is ∙ ap (λ v. v ++ 34 ∷ rest) (sym e.plain) }

-- whatever ends the text from here on ends the whole text
abbrev pub GoesOn : List ℕ → List ℕ → Type 0
GoesOn whole left = (rest : List ℕ) → EndsText left rest → EndsText whole rest

escape_both : (a b : List ℕ) → escape (a ++ b) ≡ escape a ++ escape b
escape_both [] b = refl
escape_both (x ∷ a) b = ap (λ l. escape_byte x ++ l) (escape_both a b) ∙ sym (append_assoc (escape_byte x) (escape a) (escape b))

grouped : (v e t r : List ℕ) → v ++ (e ++ (t ++ r)) ≡ (v ++ (e ++ t)) ++ r
grouped v e t r = simp append_assoc

-- a run and an escape are passed over
pub escape_passed : (left behind after : List ℕ) (n x : ℕ) → n ≡ prefix_len is_plain left → mid_of n (length left - n) left ≡ x ∷ behind → x ≡ 92 → EndsEscape behind after → GoesOn left after
escape_passed left behind after n x long next slash e rest t =
    let run = take n left in
    let own : escape run ≡ run = ap (λ m. escape (take m left)) long ∙ run_is left ∙ ap (λ m. take m left) (sym long) in
    record {
      value = run ++ e.byte ∷ t.value;
      is = sym (take-append-drop n left) ∙ ap (λ l. run ++ l) (sym (rest_of left n) ∙ next ∙ ap (λ b. b ∷ behind) slash ∙ e.is ∙ ap (λ l. escape_byte e.byte ++ l) t.is)
          ∙ grouped run (escape_byte e.byte) (escape t.value) (34 ∷ rest)
          ∙ ap (λ l. l ++ 34 ∷ rest) (ap (λ v. v ++ (escape_byte e.byte ++ escape t.value)) (sym own) ∙ sym (escape_both run (e.byte ∷ t.value)));
    }

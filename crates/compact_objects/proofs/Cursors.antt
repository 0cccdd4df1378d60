-- A text is passed over byte by byte, up to its closing quote.
use Rattle.std.proofs.Common.{codes, ap₂, ◌≡◌, ℕ, suc, ◌+◌, ◌==◌, drop, List, [], ◌∷◌, ◌++◌, Bool, true, false, cond, nat_lt, ◌/◌, ◌%◌, refl, sym, ap, ◌∙◌, append_assoc, arith}
use Rattle.std.specs.Prelude.{⊤}
use Rattle.std.specs.List.{prefix_len}
use Rattle.std.proofs.lemmas.Bool.{or_parts, not-true, eqb-false}
use Rattle.std.proofs.lemmas.List.{append_cancel_left}
use Rattle.std.specs.Char.{digit_char}
use Rattle.json.specs.Print.{escape, escape_byte, escape_letter, quoted}
use Rattle.serde_json.specs.Data.{Num, Data, null, boolean, number, string, array, object}
use Rattle.serde_json.specs.Written.{compact_text, number_text}
use Rattle.compact.specs.Plain.{is_plain, is_stop}
use Rattle.compact_objects.specs.Cursors.{BeginsNot, EndsValue, IsTextBefore}
use Rattle.compact_objects.proofs.Texts.{append_differs, number_differs, text_begun}

-- a text and its closing quote come before the rest
pub record Inside (left rest : List ℕ) : Type 0 where
  pub said : List ℕ
  pub is : left ≡ escape said ++ 34 ∷ rest

escaped_by : (P : Type 0) (short control : Bool) (l x : ℕ) (long : List ℕ) → ((t : List ℕ) → cond short (92 ∷ l ∷ []) (cond control (92 ∷ long) (x ∷ [])) ≡ 92 ∷ t → P)
    → (cond short (92 ∷ l ∷ []) (cond control (92 ∷ long) (x ∷ [])) ≡ x ∷ [] → P) → P
escaped_by P true control l x long one other = one _ refl
escaped_by P false true l x long one other = one _ refl
escaped_by P false false l x long one other = other refl

-- an escape begins with a backslash; any other byte stands for itself
by_escape : (P : Type 0) (x : ℕ) → ((t : List ℕ) → escape_byte x ≡ 92 ∷ t → P) → (escape_byte x ≡ x ∷ [] → P) → P
unfolding escape_byte
by_escape P x one other = escaped_by P (nat_lt 0 (escape_letter x)) (nat_lt x 32) (escape_letter x) x (117 ∷ 48 ∷ 48 ∷ digit_char (x / 16) ∷ digit_char (x % 16) ∷ []) one other

quote_escaped : (x : ℕ) → x ≡ 34 → escape_byte x ≡ x ∷ [] → ⊥
unfolding escape_byte
quote_escaped x is alone = let e = sym (ap escape_byte is) ∙ alone ∙ ap (λ y. y ∷ []) is in cc

first_is : (x y : ℕ) (s t : List ℕ) → x ∷ s ≡ y ∷ t → x ≡ y
first_is x y s t e = cc

behind_is : (x y : ℕ) (s t : List ℕ) → x ∷ s ≡ y ∷ t → s ≡ t
behind_is x y s t e = cc

opened : (b e r s : List ℕ) → b ≡ s → (b ++ e) ++ r ≡ s ++ (e ++ r)
opened b e r s is = append_assoc b e r ∙ ap (λ x. x ++ (e ++ r)) is

passed_at : (said left rest behind : List ℕ) (x : ℕ) → left ≡ escape said ++ 34 ∷ rest → left ≡ x ∷ behind → (x ≡ 34 → ⊥) → (x ≡ 92 → ⊥) → Inside behind rest
passed_at [] left rest behind x is at quote slash = absurd (quote (sym (first_is 34 x rest behind (sym is ∙ at))))
passed_at (y ∷ said) left rest behind x is at quote slash =
    by_escape (Inside behind rest) y (λ t e. absurd (slash (sym (first_is 92 x _ behind (sym (opened (escape_byte y) (escape said) (34 ∷ rest) (92 ∷ t) e) ∙ sym is ∙ at)))))
    (λ e. record { said = said; is = sym (behind_is y x _ behind (sym (opened (escape_byte y) (escape said) (34 ∷ rest) (y ∷ []) e) ∙ sym is ∙ at)) })

pub passed : (left rest behind : List ℕ) (x : ℕ) → Inside left rest → left ≡ x ∷ behind → (x ≡ 34 → ⊥) → (x ≡ 92 → ⊥) → Inside behind rest
passed left rest behind x h at quote slash = passed_at h.said left rest behind x h.is at quote slash

ended_at : (said left rest behind : List ℕ) (x : ℕ) → left ≡ escape said ++ 34 ∷ rest → left ≡ x ∷ behind → x ≡ 34 → behind ≡ rest
ended_at [] left rest behind x is at quote = sym (behind_is 34 x rest behind (sym is ∙ at))
ended_at (y ∷ said) left rest behind x is at quote =
    absurd (by_escape ⊥ y (λ t e. (let same = first_is 92 x _ behind (sym (opened (escape_byte y) (escape said) (34 ∷ rest) (92 ∷ t) e) ∙ sym is ∙ at) in omega (arith, same, quote)))
    (λ e. quote_escaped y (first_is y x _ behind (sym (opened (escape_byte y) (escape said) (34 ∷ rest) (y ∷ []) e) ∙ sym is ∙ at) ∙ quote) e))

pub ended : (left rest behind : List ℕ) (x : ℕ) → Inside left rest → left ≡ x ∷ behind → x ≡ 34 → behind ≡ rest
ended left rest behind x h at quote = ended_at h.said left rest behind x h.is at quote

pub inside_begins : (text left s rest : List ℕ) → text ≡ 34 ∷ left → text ≡ quoted s ++ rest → Inside left rest
inside_begins text left s rest at is = record { said = s; is = behind_is 34 34 left _ (sym at ∙ is) ∙ append_assoc (escape s) (34 ∷ []) rest }

-- a member that has been passed over, part by part
pub text_before : (behind value found rest r : List ℕ) (d : Data) → BeginsNot 34 rest → behind ≡ 58 ∷ (compact_text d ++ rest) → behind ≡ 58 ∷ value → value ≡ 34 ∷ r
    → ((s rest : List ℕ) → value ≡ quoted s ++ rest → found ≡ rest) → IsTextBefore d rest found
text_before behind value found rest r d other is colon quote ends =
    let value_is = behind_is 58 58 value _ (sym colon ∙ is) in
    let said = text_begun d rest r other (sym value_is ∙ quote) in
    record { said = said.0; is = said.1; rest_is = ends said.0 rest (value_is ∙ ap (λ e. compact_text e ++ rest) said.1) }

-- ---- truths and texts

no_true_number : (n : Num) → BeginsNot 116 (number_text n)
no_true_number n = number_differs 116 n (λ d small e. omega (arith, small, e)) (λ e. cc)

no_false_number : (n : Num) → BeginsNot 102 (number_text n)
no_false_number n = number_differs 102 n (λ d small e. omega (arith, small, e)) (λ e. cc)

true_begun : (d : Data) (rest r : List ℕ) → BeginsNot 116 rest → compact_text d ++ rest ≡ 116 ∷ r → d ≡ boolean true
true_begun null rest r other is = absurd (omega (arith, first_is 110 116 _ r is))
true_begun (boolean true) rest r other is = refl
true_begun (boolean false) rest r other is = absurd (omega (arith, first_is 102 116 _ r is))
true_begun (number n) rest r other is = absurd (append_differs 116 (number_text n) rest (no_true_number n) other r is)
true_begun (string s) rest r other is = absurd (omega (arith, first_is 34 116 _ r is))
true_begun (array ds) rest r other is = absurd (omega (arith, first_is 91 116 _ r is))
true_begun (object ms) rest r other is = absurd (omega (arith, first_is 123 116 _ r is))

false_begun : (d : Data) (rest r : List ℕ) → BeginsNot 102 rest → compact_text d ++ rest ≡ 102 ∷ r → d ≡ boolean false
false_begun null rest r other is = absurd (omega (arith, first_is 110 102 _ r is))
false_begun (boolean true) rest r other is = absurd (omega (arith, first_is 116 102 _ r is))
false_begun (boolean false) rest r other is = refl
false_begun (number n) rest r other is = absurd (append_differs 102 (number_text n) rest (no_false_number n) other r is)
false_begun (string s) rest r other is = absurd (omega (arith, first_is 34 102 _ r is))
false_begun (array ds) rest r other is = absurd (omega (arith, first_is 91 102 _ r is))
false_begun (object ms) rest r other is = absurd (omega (arith, first_is 123 102 _ r is))

ends_quote : (rest : List ℕ) → EndsValue rest → BeginsNot 34 rest
ends_quote rest ends = ends 34 (λ e. omega (arith, e)) (λ e. omega (arith, e)) (λ e. omega (arith, e))

ends_true : (rest : List ℕ) → EndsValue rest → BeginsNot 116 rest
ends_true rest ends = ends 116 (λ e. omega (arith, e)) (λ e. omega (arith, e)) (λ e. omega (arith, e))

ends_false : (rest : List ℕ) → EndsValue rest → BeginsNot 102 rest
ends_false rest ends = ends 102 (λ e. omega (arith, e)) (λ e. omega (arith, e)) (λ e. omega (arith, e))

text_there_by : (d : Data) (rest text : List ℕ) → ((s : List ℕ) × (d ≡ string s)) → text ≡ compact_text d ++ rest → (s : List ℕ) × (d ≡ string s) × (text ≡ quoted s ++ rest)
text_there_by d rest text said is = (said.0, said.1, is ∙ ap (λ e. compact_text e ++ rest) said.1)

pub text_there : (d : Data) (rest r text : List ℕ) → EndsValue rest → text ≡ compact_text d ++ rest → text ≡ 34 ∷ r → (s : List ℕ) × (d ≡ string s) × (text ≡ quoted s ++ rest)
text_there d rest r text ends is quote = text_there_by d rest text (text_begun d rest r (ends_quote rest ends) (sym is ∙ quote)) is

pub behind_quoted : (text found rest r : List ℕ) (d : Data) → EndsValue rest → text ≡ compact_text d ++ rest → text ≡ 34 ∷ r → ((s rest : List ℕ) → text ≡ quoted s ++ rest → found ≡ rest) → found ≡ rest
behind_quoted text found rest r d ends is quote goes = let said = text_there d rest r text ends is quote in goes said.0 rest said.2

pub behind_true : (text found rest : List ℕ) (d : Data) → EndsValue rest → text ≡ compact_text d ++ rest → text ≡ codes "true" ++ found → found ≡ rest
behind_true text found rest d ends is word =
    let truth = true_begun d rest _ (ends_true rest ends) (sym is ∙ word) in
    append_cancel_left (codes "true") found rest (sym word ∙ is ∙ ap (λ e. compact_text e ++ rest) truth)

pub behind_false : (text found rest : List ℕ) (d : Data) → EndsValue rest → text ≡ compact_text d ++ rest → text ≡ codes "false" ++ found → found ≡ rest
behind_false text found rest d ends is word =
    let truth = false_begun d rest _ (ends_false rest ends) (sym is ∙ word) in
    append_cancel_left (codes "false") found rest (sym word ∙ is ∙ ap (λ e. compact_text e ++ rest) truth)

pub colon_passed : (behind value tail : List ℕ) → behind ≡ 58 ∷ tail → behind ≡ 58 ∷ value → value ≡ tail
colon_passed behind value tail is colon = behind_is 58 58 value tail (sym colon ∙ is)

-- ---- which key it is

abbrev pub HasNoEscape : List ℕ → Type 0
HasNoEscape [] = ⊤
HasNoEscape (x ∷ s) = (x ≡ 34 → ⊥) × (x ≡ 92 → ⊥) × HasNoEscape s

pub same_key : (p k a b : List ℕ) → HasNoEscape p → escape k ++ 34 ∷ a ≡ p ++ 34 ∷ b → k ≡ p
same_key [] [] a b plain is = refl
same_key [] (x ∷ k) a b plain is =
    absurd (by_escape ⊥ x (λ t e. (let same = first_is 92 34 _ b (sym (opened (escape_byte x) (escape k) (34 ∷ a) (92 ∷ t) e) ∙ is) in omega (arith, same)))
    (λ e. quote_escaped x (first_is x 34 _ b (sym (opened (escape_byte x) (escape k) (34 ∷ a) (x ∷ []) e) ∙ is)) e))
same_key (y ∷ p) [] a b plain is = absurd (plain.0 (sym (first_is 34 y a _ is)))
same_key (y ∷ p) (x ∷ k) a b plain is =
    by_escape (x ∷ k ≡ y ∷ p) x (λ t e. absurd (plain.1 (sym (first_is 92 y _ _ (sym (opened (escape_byte x) (escape k) (34 ∷ a) (92 ∷ t) e) ∙ is)))))
    (λ e. (let whole = sym (opened (escape_byte x) (escape k) (34 ∷ a) (x ∷ []) e) ∙ is in ap₂ (λ z s. z ∷ s) (first_is x y _ _ whole) (same_key p k a b plain.2 (behind_is x y _ _ whole))))

-- ---- by a run of plain bytes

run_at : (b : Bool) (x : ℕ) (xs rest behind : List ℕ) → is_plain x ≡ b → (drop (prefix_len is_plain xs) xs ≡ 34 ∷ behind → Inside xs rest → behind ≡ rest)
    → drop (cond b (1 + prefix_len is_plain xs) 0) (x ∷ xs) ≡ 34 ∷ behind → Inside (x ∷ xs) rest → behind ≡ rest
run_at true x xs rest behind plain later ends inside =
    let one : 1 + prefix_len is_plain xs ≡ suc (prefix_len is_plain xs) = omega arith in
    let none = or_parts _ _ (not-true (is_stop x) plain) in
    let tests = or_parts (x == 34) _ none.0 in
    later (sym (ap (λ m. drop m (x ∷ xs)) one) ∙ ends) (passed (x ∷ xs) rest xs x inside refl (eqb-false x 34 tests.0) (eqb-false x 92 tests.1))
run_at false x xs rest behind plain later ends inside = sym (behind_is x 34 xs behind ends) ∙ ended (x ∷ xs) rest xs x inside refl (first_is x 34 xs behind ends)

pub run_ends : (left rest behind : List ℕ) → drop (prefix_len is_plain left) left ≡ 34 ∷ behind → Inside left rest → behind ≡ rest
run_ends [] rest behind ends inside = absurd cc
run_ends (x ∷ xs) rest behind ends inside = run_at (is_plain x) x xs rest behind refl (run_ends xs rest behind) ends inside

-- What the first bytes of a value say of it.
use Rattle.std.proofs.Common.{◌≡◌, ℕ, zero, suc, ◌+◌, ◌<◌, ◌/◌, ◌%◌, ◌==◌, List, [], ◌∷◌, ◌++◌, Bool, true, false, cond, nat_eq, take, drop, length, take-append-drop, refl, sym, ap, ◌∙◌, arith}
use Rattle.std.specs.Prelude.{decimal, pos, negsuc}
use Rattle.std.specs.Fmt.{digits, digits_onto, digit_glyph}
use Rattle.std.specs.List.{list_any}
use Rattle.std.proofs.lemmas.Bool.{lt-ltb, or_parts}
use Rattle.std.proofs.lemmas.List.{append-nil, append_cancel_right}
use Rattle.std.proofs.lemmas.Slice.Eq.{bytes_eq-Decides}
use Rattle.std.specs.Cmp.Lexicographic.{pointwise}
use Rattle.json.specs.Print.{escape, escape_byte}
use Rattle.serde_json.specs.Data.{Num, unsigned, negative, float, Data, null, boolean, number, string, array, object}
use Rattle.serde_json.specs.Written.{compact_text, number_text}
use Rattle.compact_objects.specs.Cursors.{BeginsNot}

abbrev pub IsNoDigit : ℕ → Type 0
IsNoDigit c = (d : ℕ) → d < 10 → 48 + d ≡ c → ⊥

glyph : (n : ℕ) → digit_glyph false (n % 10) ≡ 48 + n % 10
glyph n = ap (λ b. cond b (48 + n % 10) (87 + n % 10)) (lt-ltb (n % 10) 10 (omega arith))

digit_differs : (c n : ℕ) (acc : List ℕ) → IsNoDigit c → BeginsNot c (digit_glyph false (n % 10) ∷ acc)
digit_differs c n acc other r e = other (n % 10) (omega arith) (sym (glyph n) ∙ (let same : digit_glyph false (n % 10) ≡ c = cc in same))

differs_by : (b : Bool) (c : ℕ) (s t : List ℕ) → BeginsNot c s → BeginsNot c t → BeginsNot c (cond b s t)
differs_by true c s t one other = one
differs_by false c s t one other = other

onto_differs : (k c n : ℕ) (acc : List ℕ) → IsNoDigit c → BeginsNot c acc → BeginsNot c (digits_onto k 10 false n acc)
onto_differs zero c n acc other own = own
onto_differs (suc k) c n acc other own =
    let here = digit_differs c n acc other in
    differs_by (n / 10 == 0) c _ _ here (onto_differs k c (n / 10) (digit_glyph false (n % 10) ∷ acc) other here)

pub decimal_differs : (c n : ℕ) → IsNoDigit c → BeginsNot c (decimal n)
unfolding digits
decimal_differs c n other = onto_differs 64 c n [] other (λ r e. cc)

pub number_differs : (c : ℕ) (n : Num) → IsNoDigit c → (45 ≡ c → ⊥) → BeginsNot c (number_text n)
number_differs c (unsigned n) other sign = decimal_differs c n other
number_differs c (negative (pos n)) other sign = decimal_differs c n other
number_differs c (negative (negsuc n)) other sign = λ r e. sign cc
number_differs c (float x) other sign = λ r e. cc

-- ---- texts

abbrev pub has_backslash : List ℕ → Bool
has_backslash s = list_any (λ y. nat_eq y 92) s

byte_by : (short control : Bool) (l h d x : ℕ) (rest : List ℕ) → has_backslash (cond short (92 ∷ l ∷ []) (cond control (92 ∷ 117 ∷ 48 ∷ 48 ∷ h ∷ d ∷ []) (x ∷ [])) ++ rest) ≡ false
    → cond short (92 ∷ l ∷ []) (cond control (92 ∷ 117 ∷ 48 ∷ 48 ∷ h ∷ d ∷ []) (x ∷ [])) ≡ x ∷ []
byte_by true control l h d x rest none = absurd cc
byte_by false true l h d x rest none = absurd cc
byte_by false false l h d x rest none = refl

plain_byte : (x : ℕ) (rest : List ℕ) → has_backslash (escape_byte x ++ rest) ≡ false → escape_byte x ≡ x ∷ []
unfolding escape_byte
plain_byte x rest none = byte_by _ _ _ _ _ x rest none

plain_bytes : (s : List ℕ) → has_backslash (escape s) ≡ false → escape s ≡ s
plain_bytes [] none = refl
plain_bytes (x ∷ s) none =
    let one = plain_byte x (escape s) none in
    let others = or_parts (nat_eq x 92) (has_backslash (escape s)) (sym (ap (λ b. has_backslash (b ++ escape s)) one) ∙ none) in
    ap (λ b. b ++ escape s) one ∙ ap (λ r. x ∷ r) (plain_bytes s others.1)

no_number : (n : Num) → BeginsNot 34 (number_text n)
no_number n = number_differs 34 n (λ d small e. omega (arith, small, e)) (λ e. cc)

pub append_differs : (c : ℕ) (s t : List ℕ) → BeginsNot c s → BeginsNot c t → BeginsNot c (s ++ t)
append_differs c [] t one other = other
append_differs c (x ∷ s) t one other = λ r e. one s (let first : x ≡ c = cc in ap (λ y. y ∷ s) first)

string_said : (s inside : List ℕ) → escape s ++ 34 ∷ [] ≡ inside ++ 34 ∷ [] → has_backslash inside ≡ false → s ≡ inside
string_said s inside is none =
    let escaped = append_cancel_right (escape s) inside (34 ∷ []) is in
    sym (plain_bytes s (ap has_backslash escaped ∙ none)) ∙ escaped

behind : (x y : ℕ) (s t : List ℕ) → x ∷ s ≡ y ∷ t → s ≡ t
behind x y s t e = cc

quote_first : (x : ℕ) (s r : List ℕ) → x ∷ s ≡ 34 ∷ r → x ≡ 34
quote_first x s r e = cc

-- a value that begins with a quote is a text, whatever follows it
pub text_begun : (v : Data) (rest r : List ℕ) → BeginsNot 34 rest → compact_text v ++ rest ≡ 34 ∷ r → (s : List ℕ) × (v ≡ string s)
text_begun null rest r other is = absurd (omega (arith, quote_first 110 _ r is))
text_begun (boolean true) rest r other is = absurd (omega (arith, quote_first 116 _ r is))
text_begun (boolean false) rest r other is = absurd (omega (arith, quote_first 102 _ r is))
text_begun (number n) rest r other is = absurd (append_differs 34 (number_text n) rest (no_number n) other r is)
text_begun (string s) rest r other is = (s, refl)
text_begun (array ds) rest r other is = absurd (omega (arith, quote_first 91 _ r is))
text_begun (object ms) rest r other is = absurd (omega (arith, quote_first 123 _ r is))

-- with no escape, a text says what it is written as
pub text_said : (v : Data) (inside : List ℕ) → compact_text v ≡ 34 ∷ (inside ++ 34 ∷ []) → has_backslash inside ≡ false → v ≡ string inside
text_said v inside is none =
    let t = text_begun v [] (inside ++ 34 ∷ []) (λ r e. cc) (append-nil (compact_text v) ∙ is) in
    t.1 ∙ ap string (string_said t.0 inside (behind 34 34 (escape t.0 ++ 34 ∷ []) (inside ++ 34 ∷ []) (sym (ap compact_text t.1) ∙ is)) none)

pub begins : (s front rest : List ℕ) → pointwise nat_eq (take (length front) s) front ≡ true → rest ≡ drop (length front) s → s ≡ front ++ rest
begins s front rest same is =
    sym (take-append-drop (length front) s) ∙ ap (λ x. x ++ drop (length front) s) ((bytes_eq-Decides (take (length front) s) front).0 same) ∙ ap (λ x. front ++ x) (sym is)

pub ends : (s back front : List ℕ) (n : ℕ) → pointwise nat_eq (drop n s) back ≡ true → front ≡ take n s → s ≡ front ++ back
ends s back front n same is = sym (take-append-drop n s) ∙ ap (λ x. take n s ++ x) ((bytes_eq-Decides (drop n s) back).0 same) ∙ ap (λ x. x ++ back) (sym is)

pub same_bytes : (xs ys zs : List ℕ) (b : Bool) → b ≡ pointwise nat_eq xs ys → b ≡ true → ys ≡ zs → xs ≡ zs
same_bytes xs ys zs b is same last = (bytes_eq-Decides xs ys).0 (sym is ∙ same) ∙ last

pub other_bytes : (xs ys zs : List ℕ) (b : Bool) → b ≡ pointwise nat_eq xs ys → b ≡ false → ys ≡ zs → xs ≡ zs → ⊥
other_bytes xs ys zs b is apart last same = let e = sym apart ∙ is ∙ (bytes_eq-Decides xs ys).1 (same ∙ sym last) in cc

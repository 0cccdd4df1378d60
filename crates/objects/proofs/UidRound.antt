-- The numbers of UIDs and of resource versions, read back from their texts.
use Rattle.std.proofs.Common.{◌≡◌, ℕ, ◌+◌, ◌*◌, ◌/◌, ◌%◌, ◌^◌, ◌<◌, List, [], ◌∷◌, ◌++◌, length, drop, Bool, true, false, ◌&&◌, nat_lt, Some, None, unwrap_or, decimal, refl, sym, ap, ◌∙◌, subst, arith, cond, length-append}
use Rattle.std.specs.Prelude.{⊤, bytes_eq, fold, ◌==◌, slice_index}
use Rattle.std.proofs.Math.Nat.{div-div-eq-div-mul}
use Rattle.std.specs.Int.{w64, to_be_bytes}
use Rattle.std.specs.Str.{all_ascii_digits}
use Rattle.std.specs.Str.Parse.{digits_value}
use Rattle.std.proofs.lemmas.Bool.{lt-ltb, ltb-true}
use Rattle.std.proofs.lemmas.Option.{none-some, same_Some}
use Rattle.std.proofs.lemmas.Bool.Decides.{nat_tests}
use Rattle.std.proofs.lemmas.Fmt.{decimal_is_IsNumeral, decimal_nonempty, first_decimal, digits_decimal}
use Rattle.std.proofs.lemmas.Str.Parse.{numerals_by_value, tells_all_ascii_digits}
use Rattle.std.proofs.lemmas.Slice.Eq.{bytes_eq-Decides}
use Rattle.hex.specs.Hex.{encode_with, lower_digits, hex_digit_value}
use Rattle.hex.proofs.HexLemmas.{IsDigits-lower_digits}
use Rattle.objects.specs.Uid.{uid_text, uid_number, uid_prefix, twelve_digits, hex_value, version_number}

-- a resource version of the store's form reads back as its number
pub version_number-decimal : (n : ℕ) → 0 < n → n < 2 ^ 64 → version_number (decimal n) ≡ n
unfolding version_number
version_number-decimal n some small =
    let numeral = decimal_is_IsNumeral n small in
    let digits : all_ascii_digits (decimal n) ≡ true = digits_decimal (numerals_by_value (λ ds. all_ascii_digits ds ≡ true) tells_all_ascii_digits) n small in
    let value : digits_value 10 (decimal n) ≡ n = numeral.1 in
    rw (lt-ltb 48 _ (first_decimal n some small), digits, value, lt-ltb n (2 ^ 64) small) refl

-- ---- hexadecimal digits

abbrev AreBytes : List ℕ → Type 0
AreBytes [] = ⊤
AreBytes (b ∷ bs) = (b < 256) × AreBytes bs

abbrev one_digit : ℕ → ℕ → ℕ
one_digit n b = 16 * n + unwrap_or (hex_digit_value b) 0

abbrev one_byte : ℕ → ℕ → ℕ
one_byte n b = 256 * n + b

two_digits : (n b : ℕ) → b < 256 → one_digit (one_digit n (slice_index lower_digits (b / 16))) (slice_index lower_digits (b % 16)) ≡ one_byte n b
two_digits n b fits =
    let high : b / 16 < 16 = omega arith in
    let low : b % 16 < 16 = omega arith in
    rw (IsDigits-lower_digits (b / 16) high, IsDigits-lower_digits (b % 16) low) (omega arith)

digits_of_bytes : (n : ℕ) (bs : List ℕ) → AreBytes bs → fold one_digit n (encode_with lower_digits bs) ≡ fold one_byte n bs
unfolding encode_with
digits_of_bytes n [] h = refl
digits_of_bytes n (b ∷ bs) h = ap (λ m. fold one_digit m (encode_with lower_digits bs)) (two_digits n b h.0) ∙ digits_of_bytes (one_byte n b) bs h.1

byte_and_rest : (n p : ℕ) → n / p ≡ n / p % 256 + n / (p * 256) * 256
byte_and_rest n p = omega (arith, div-div-eq-div-mul n p 256)

joined_6 : (a b c d e f n p q r s t : ℕ) → n ≡ a + p * 256 → p ≡ b + q * 256 → q ≡ c + r * 256 → r ≡ d + s * 256 → s ≡ e + t * 256 → t ≡ f
    → 256 * (256 * (256 * (256 * (256 * (256 * 0 + f) + e) + d) + c) + b) + a ≡ n
joined_6 a b c d e f n p q r s t at_0 at_1 at_2 at_3 at_4 at_5 = omega arith

low_bytes : (n : ℕ) → n < 2 ^ 48 → fold one_byte 0 (drop 2 (to_be_bytes w64 n)) ≡ n
low_bytes n fits =
    let low : n ≡ n % 256 + n / 256 * 256 = omega arith in
    let high : n / 1099511627776 ≡ n / 1099511627776 % 256 = omega arith in
    joined_6 _ _ _ _ _ _ n _ _ _ _ _ low (byte_and_rest n 256) (byte_and_rest n 65536) (byte_and_rest n 16777216) (byte_and_rest n 4294967296) high

are_bytes : (n : ℕ) → AreBytes (drop 2 (to_be_bytes w64 n))
are_bytes n = (omega arith, (omega arith, (omega arith, (omega arith, (omega arith, (omega arith, tt))))))

-- the twelve digits have the number's value
pub hex_value-twelve_digits : (n : ℕ) → n < 2 ^ 48 → hex_value (twelve_digits n) ≡ n
hex_value-twelve_digits n fits = digits_of_bytes 0 (drop 2 (to_be_bytes w64 n)) (are_bytes n) ∙ low_bytes n fits

pub uid_text-some : (n : ℕ) → 0 < n → uid_text n ≡ uid_prefix ++ twelve_digits n
unfolding uid_text
uid_text-some n some = let other : (n == 0) ≡ false = grind (arith, nat_tests) in rw other refl

by_value : (s : List ℕ) (v n : ℕ) → v ≡ n → s ≡ uid_text n → 0 < n → n < 2 ^ 48 → cond (nat_lt 0 v && nat_lt v (2 ^ 48) && bytes_eq s (uid_text v)) (Some v) None ≡ Some n
by_value s v n is text some small = rw (is, lt-ltb 0 n some, lt-ltb n (2 ^ 48) small, (bytes_eq-Decides s (uid_text n)).1 text) refl

-- a UID's text reads back as its number
pub uid_number-uid_text : (n : ℕ) → 0 < n → n < 2 ^ 48 → uid_number (uid_text n) ≡ Some n
unfolding uid_number
uid_number-uid_text n some small =
    by_value (uid_text n) (hex_value (drop 24 (uid_text n))) n (ap (λ s. hex_value (drop 24 s)) (uid_text-some n some) ∙ hex_value-twelve_digits n small) refl some small

-- if a number is found, the tests say what the text is
found_by : (low small same : Bool) (s : List ℕ) (v n : ℕ) → (low ≡ true → 0 < v) → (small ≡ true → v < 2 ^ 48) → (same ≡ true → s ≡ uid_text v)
    → cond (low && small && same) (Some v) None ≡ Some n → (uid_text n ≡ s) × (0 < n) × (n < 2 ^ 48)
found_by true true true s v n some fits text found =
    let e : v ≡ n = same_Some v n found in (ap uid_text (sym e) ∙ sym (text refl), subst (λ x. 0 < x) e (some refl), subst (λ x. x < 2 ^ 48) e (fits refl))
found_by false small same s v n some fits text found = absurd (none-some n found)
found_by true false same s v n some fits text found = absurd (none-some n found)
found_by true true false s v n some fits text found = absurd (none-some n found)

-- a text that has a number is the text of that number
pub uid_text-uid_number : (s : List ℕ) (n : ℕ) → uid_number s ≡ Some n → (uid_text n ≡ s) × (0 < n) × (n < 2 ^ 48)
unfolding uid_number
uid_text-uid_number s n found =
    let v = hex_value (drop 24 s) in
    found_by (nat_lt 0 v) (nat_lt v (2 ^ 48)) (bytes_eq s (uid_text v)) s v n
    (ltb-true 0 v) (ltb-true v (2 ^ 48)) (bytes_eq-Decides s (uid_text v)).0 found

-- ---- when 0 stands for none

pub length-decimal : (n : ℕ) → 0 < n → n < 2 ^ 64 → 0 < length (decimal n)
length-decimal n some small = decimal_nonempty n small

pub length-uid : (n : ℕ) → 0 < n → 0 < length (uid_text n)
length-uid n some = subst (λ s. 0 < length s) (sym (uid_text-some n some)) (omega (arith, length-append uid_prefix (twelve_digits n)))

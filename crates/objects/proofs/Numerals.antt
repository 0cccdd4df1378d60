-- Texts of numbers.
use Rattle.std.proofs.Common.{◌≡◌, ℕ, ◌^◌, ◌<◌, List, [], ◌∷◌, ◌++◌, length, get_or, drop, Bool, true, false, ◌&&◌, nat_lt, bytes_eq, Result, Ok, Err, Some, None, refl, sym, ap, ◌∙◌, arith, cond}
use Rattle.std.specs.Result.{OkIff, result_unwrap_or}
use Rattle.std.specs.List.{list_all}
use Rattle.std.specs.Str.{all_ascii_digits, IsAscii, IsUtf8}
use Rattle.std.proofs.lemmas.Str.Ascii.{IsAscii-nil, IsAscii-cons}
use Rattle.std.proofs.lemmas.Str.{IsAscii-append, IsUtf8-from_ascii}
use Rattle.std.specs.Str.Parse.{digits_value, ParsesUnsigned}
use Rattle.std.proofs.lemmas.Str.Parse.{parse_plain, numerals_by_value, tells_all_ascii_digits}
use Rattle.std.proofs.lemmas.Slice.Eq.{bytes_eq-Decides}
use Rattle.std.specs.Prelude.{◌==◌}
use Rattle.std.proofs.lemmas.Bool.Decides.{nat_tests}
use Rattle.std.proofs.lemmas.Bool.{and_parts, ltb-true, lt-ltb}
use Rattle.hex.proofs.HexLemmas.{length-encode_with, IsAscii-encode_with}
use Rattle.hex.specs.Hex.{lower_digits}
use Rattle.objects.specs.Uid.{uid_text, uid_number, uid_prefix, twelve_digits, hex_value, version_number}

nonempty : (s : List ℕ) → 48 < get_or s 0 0 → 0 < length s
nonempty [] h = absurd (omega arith)
nonempty (b ∷ s) h = omega arith

by_tests : {E : Type 0} (s : List ℕ) (r : Result ℕ E) (v : ℕ) (first digits fits : Bool) → first ≡ true → digits ≡ all_ascii_digits s → fits ≡ nat_lt v (2 ^ 64) → OkIff r ((all_ascii_digits s ≡ true) × (0 < length s) × (v < 2 ^ 64)) v
    → 0 < length s → result_unwrap_or r 0 ≡ cond (first && digits && fits) v 0
by_tests s (Ok n) v first digits fits a b c h some = rw (a, b ∙ h.0.0, c ∙ lt-ltb v (2 ^ 64) h.0.2) h.1
by_tests s (Err e) v first true true a b c h some = absurd (h (sym b, some, ltb-true v (2 ^ 64) (sym c)))
by_tests s (Err e) v first true false a b c h some = rw a refl
by_tests s (Err e) v first false fits a b c h some = rw a refl

-- what parsing gives, or 0, if the first byte is above `0`
pub version_by : {E : Type 0} (s : List ℕ) (r : Result ℕ E) → 48 < get_or s 0 0 → ParsesUnsigned 64 10 s r → result_unwrap_or r 0 ≡ version_number s
unfolding version_number
version_by s r above h =
    by_tests s r (digits_value 10 s) (nat_lt 48 (get_or s 0 0)) (all_ascii_digits s) (nat_lt (digits_value 10 s) (2 ^ 64)) (lt-ltb 48 (get_or s 0 0) above) refl refl
    (parse_plain (numerals_by_value (λ ds. all_ascii_digits ds ≡ true) tells_all_ascii_digits) 64 s r h (omega arith)) (nonempty s above)

length-uid : (n : ℕ) → length (uid_prefix ++ twelve_digits n) ≡ 36
length-uid n = rw length-encode_with refl

length-uid_text : (n : ℕ) → 0 < n → length (uid_text n) ≡ 36
unfolding uid_text
length-uid_text n some = let other : (n == 0) ≡ false = grind (arith, nat_tests) in rw other (length-uid n)

short_by : (s : List ℕ) (n : ℕ) (some small same : Bool) → some ≡ nat_lt 0 n → same ≡ bytes_eq s (uid_text n) → (length s ≡ 36 → ⊥) → cond (some && small && same) (Some n) None ≡ None
short_by s n true true true a b other =
    absurd (other (ap length ((bytes_eq-Decides s (uid_text n)).0 (sym b)) ∙ length-uid_text n (ltb-true 0 n (sym a))))
short_by s n true true false a b other = refl
short_by s n true false same a b other = refl
short_by s n false small same a b other = refl

-- the text of a UID has 36 bytes
pub uid_number-short : (s : List ℕ) → (length s ≡ 36 → ⊥) → uid_number s ≡ None
unfolding uid_number
uid_number-short s other = short_by s (hex_value (drop 24 s)) _ (nat_lt (hex_value (drop 24 s)) (2 ^ 48)) _ refl refl other

ascii_by : (bs : List ℕ) → list_all (λ b. nat_lt b 128) bs ≡ true → IsAscii bs
ascii_by [] h = IsAscii-nil
ascii_by (b ∷ bs) h = let both = and_parts (nat_lt b 128) _ h in IsAscii-cons b bs (ltb-true b 128 both.0) (ascii_by bs both.1)

pub IsUtf8-uid : (n : ℕ) → IsUtf8 (uid_prefix ++ twelve_digits n)
IsUtf8-uid n = IsUtf8-from_ascii _ (IsAscii-append uid_prefix (twelve_digits n) (ascii_by uid_prefix refl) (IsAscii-encode_with lower_digits _ (ascii_by lower_digits refl)))

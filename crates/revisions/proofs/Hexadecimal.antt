-- The digits of hexadecimal texts: lower-case letters and digits.
use Rattle.std.proofs.Common.{◌≡◌, ℕ, suc, ◌/◌, ◌%◌, ◌<◌, List, [], ◌∷◌, true, drop, refl, arith}
use Rattle.std.specs.Prelude.{slice_index}
use Rattle.std.specs.List.{list_all}
use Rattle.std.specs.Str.{IsAscii}
use Rattle.std.proofs.lemmas.List.Elements.{All-get_or}
use Rattle.std.proofs.lemmas.List.Sums.{AllPass-from_list_all}
use Rattle.std.proofs.lemmas.Str.Ascii.{IsAscii-nil, IsAscii-cons}
use Rattle.hex.specs.Hex.{IsBytes, encode_lower, encode_with, lower_digits}
use Rattle.objects.specs.Names.{is_alphanumeric}

pub lower_ascii : IsAscii lower_digits
lower_ascii =
    IsAscii-cons 48 (drop 1 lower_digits) (omega arith) (IsAscii-cons 49 (drop 2 lower_digits) (omega arith) (IsAscii-cons 50 (drop 3 lower_digits) (omega arith) (IsAscii-cons 51 (drop 4 lower_digits) (omega arith)
    (IsAscii-cons 52 (drop 5 lower_digits) (omega arith) (IsAscii-cons 53 (drop 6 lower_digits) (omega arith) (IsAscii-cons 54 (drop 7 lower_digits) (omega arith) (IsAscii-cons 55 (drop 8 lower_digits) (omega arith)
    (IsAscii-cons 56 (drop 9 lower_digits) (omega arith) (IsAscii-cons 57 (drop 10 lower_digits) (omega arith) (IsAscii-cons 97 (drop 11 lower_digits) (omega arith) (IsAscii-cons 98 (drop 12 lower_digits) (omega arith)
    (IsAscii-cons 99 (drop 13 lower_digits) (omega arith) (IsAscii-cons 100 (drop 14 lower_digits) (omega arith) (IsAscii-cons 101 (drop 15 lower_digits) (omega arith) (IsAscii-cons 102 (drop 16 lower_digits) (omega arith) IsAscii-nil)))))))))))))))

digit_is : (d : ℕ) → d < 16 → is_alphanumeric (slice_index lower_digits d) ≡ true
digit_is d small = All-get_or (λ b. is_alphanumeric b ≡ true) lower_digits d 0 small (AllPass-from_list_all is_alphanumeric lower_digits refl)

pub digits_are : (bytes : List ℕ) → IsBytes bytes → list_all is_alphanumeric (encode_lower bytes) ≡ true
unfolding encode_with
digits_are [] small = refl
digits_are (b ∷ bytes) small =
    let first : b < 256 = small 0 in
    rw (digit_is (b / 16) (omega arith), digit_is (b % 16) (omega arith)) (digits_are bytes (λ i. small (suc i)))

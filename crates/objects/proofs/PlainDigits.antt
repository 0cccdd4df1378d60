-- Decimals need no escape in a text.
use Rattle.std.proofs.Common.{◌≡◌, ℕ, ◌≤◌, ◌<◌, ◌^◌, List, [], ◌∷◌, ◌++◌, decimal, true, nat_le, refl, ap, ◌∙◌, arith}
use Rattle.std.specs.Char.{is_ascii_digit}
use Rattle.std.specs.Str.{all_ascii_digits}
use Rattle.std.proofs.lemmas.Bool.{and_parts, leb-true}
use Rattle.std.proofs.lemmas.Fmt.{digits_decimal}
use Rattle.std.proofs.lemmas.Str.Parse.{numerals_by_value, tells_all_ascii_digits}
use Rattle.json.proofs.Printed.Strings.{escape_byte_plain}
use Rattle.json.specs.Print.{escape}

plain_digits : (s : List ℕ) → all_ascii_digits s ≡ true → escape s ≡ s
plain_digits [] h = refl
plain_digits (x ∷ s) h =
    let parts = and_parts (is_ascii_digit x) (all_ascii_digits s) h in
    let ends = and_parts (nat_le 48 x) (nat_le x 57) parts.0 in
    let low : 48 ≤ x = leb-true 48 x ends.0 in
    ap (λ e. e ++ escape s) (escape_byte_plain x (λ e. omega (arith, e, low)) (λ e. omega (arith, e, leb-true x 57 ends.1)) (omega arith)) ∙ ap (λ r. x ∷ r) (plain_digits s parts.1)

pub plain_decimal : (n : ℕ) → n < 2 ^ 64 → escape (decimal n) ≡ decimal n
plain_decimal n small = plain_digits (decimal n) (digits_decimal (numerals_by_value (λ ds. all_ascii_digits ds ≡ true) tells_all_ascii_digits) n small)

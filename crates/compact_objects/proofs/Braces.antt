-- A value that begins with a brace is a map.
use Rattle.std.proofs.Common.{◌≡◌, ℕ, zero, suc, ◌+◌, ◌/◌, ◌%◌, ◌==◌, List, [], ◌∷◌, Bool, true, false, cond, refl, sym, ap, ◌∙◌, arith}
use Rattle.std.specs.Prelude.{decimal, pos, negsuc}
use Rattle.std.specs.Fmt.{digits, digits_onto, digit_glyph}
use Rattle.std.proofs.lemmas.Bool.{lt-ltb}
use Rattle.serde_json.specs.Data.{Num, unsigned, negative, float, Data, null, boolean, number, string, array, object, Members}
use Rattle.serde_json.specs.Written.{compact_text, number_text}
use Rattle.compact_objects.specs.Cursors.{BeginsNot}

first_of : (x : ℕ) (s r : List ℕ) → x ∷ s ≡ 123 ∷ r → x ≡ 123
first_of x s r e = cc

glyph : (n : ℕ) → digit_glyph false (n % 10) ≡ 48 + n % 10
glyph n = ap (λ b. cond b (48 + n % 10) (87 + n % 10)) (lt-ltb (n % 10) 10 (omega arith))

no_digit : (n : ℕ) (acc : List ℕ) → BeginsNot 123 (digit_glyph false (n % 10) ∷ acc)
no_digit n acc r e = let same : 48 + n % 10 ≡ 123 = sym (glyph n) ∙ first_of _ acc r e in absurd (omega (arith, same))

either : (b : Bool) (s t : List ℕ) → BeginsNot 123 s → BeginsNot 123 t → BeginsNot 123 (cond b s t)
either true s t one other = one
either false s t one other = other

no_digits : (k n : ℕ) (acc : List ℕ) → BeginsNot 123 acc → BeginsNot 123 (digits_onto k 10 false n acc)
no_digits zero n acc own = own
no_digits (suc k) n acc own = either (n / 10 == 0) _ _ (no_digit n acc) (no_digits k (n / 10) (digit_glyph false (n % 10) ∷ acc) (no_digit n acc))

no_decimal : (n : ℕ) → BeginsNot 123 (decimal n)
unfolding digits
no_decimal n = no_digits 64 n [] (λ r e. cc)

no_sign : (x : ℕ) → x ≡ 45 → x ≡ 123 → ⊥
no_sign x one other = omega (arith, one, other)

no_number : (n : Num) → BeginsNot 123 (number_text n)
no_number (unsigned n) = no_decimal n
no_number (negative (pos n)) = no_decimal n
no_number (negative (negsuc n)) = λ r e. no_sign 45 refl (first_of 45 (decimal (suc n)) r e)
no_number (float x) = λ r e. cc

pub map_begun : (d : Data) (r : List ℕ) → compact_text d ≡ 123 ∷ r → (ms : Members) × (d ≡ object ms)
map_begun null r is = absurd (omega (arith, first_of 110 _ r is))
map_begun (boolean true) r is = absurd (omega (arith, first_of 116 _ r is))
map_begun (boolean false) r is = absurd (omega (arith, first_of 102 _ r is))
map_begun (number n) r is = absurd (no_number n r is)
map_begun (string s) r is = absurd (omega (arith, first_of 34 _ r is))
map_begun (array ds) r is = absurd (omega (arith, first_of 91 _ r is))
map_begun (object ms) r is = (ms, refl)

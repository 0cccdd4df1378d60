-- What has been passed over: escapes, numbers, words.
use Rattle.std.proofs.Common.{◌≡◌, ℕ, zero, suc, negsuc, ◌<◌, List, [], ◌∷◌, ◌++◌, length, Bool, true, Some, take, drop, take-append-drop, refl, sym, ap, ◌∙◌, ◌^◌, append_assoc, arith}
use Rattle.std.specs.Prelude.{decimal, nat_eq, Option, None, IfSome, MatchOption}
use Rattle.std.specs.Cmp.Lexicographic.{pointwise}
use Rattle.std.proofs.lemmas.Slice.Eq.{bytes_eq-Decides}
use Rattle.json.specs.Print.{escape, escape_byte}
use Rattle.json.proofs.Printed.Decimals.{IsNumber-decimal, IsNumber-signed_decimal}
use Rattle.json.specs.Json.{null, boolean, number, string}
use Rattle.serde_json.specs.Data.{unsigned, negative}
use Rattle.serde_json.proofs.Numbers.{number_of-decimal, number_of-negative}
use Rattle.compact.specs.Texts.{json_text}
use Rattle.compact.specs.Begins.{BeginsScalar, BeginsDigits, EndsText, EndsEscape}

-- ---- escapes

pub escaped : (text rest : List ℕ) (letter byte : ℕ) → text ≡ letter ∷ rest → escape_byte byte ≡ 92 ∷ letter ∷ [] → EndsEscape text rest
escaped text rest letter byte is by = record { byte = byte; is = ap (λ l. 92 ∷ l) is ∙ sym (ap (λ b. b ++ rest) by) }

pub stripped : (line front rest : List ℕ) → pointwise nat_eq (take (length front) line) front ≡ true → rest ≡ drop (length front) line → line ≡ front ++ rest
stripped line front rest same is = sym (take-append-drop (length front) line) ∙ ap (λ x. x ++ drop (length front) line) ((bytes_eq-Decides (take (length front) line) front).0 same) ∙ ap (λ x. front ++ x) (sym is)

pub control_is : (text behind last rest : List ℕ) (high low byte : ℕ) → text ≡ 117 ∷ 48 ∷ 48 ∷ behind → behind ≡ high ∷ last → last ≡ low ∷ rest → escape_byte byte ≡ 92 ∷ 117 ∷ 48 ∷ 48 ∷ high ∷ low ∷ [] → EndsEscape text rest
control_is text behind last rest high low byte is first second by = record {
  byte = byte;
  is = ap (λ l. 92 ∷ l) is ∙ ap (λ l. 92 ∷ 117 ∷ 48 ∷ 48 ∷ l) (first ∙ ap (λ l. high ∷ l) second) ∙ sym (ap (λ b. b ++ rest) by);
}

-- ---- numbers

pub split_parts : (text front back : List ℕ) (n : ℕ) → front ≡ take n text → back ≡ drop n text → text ≡ front ++ back
split_parts text front back n a b = sym (take-append-drop n text) ∙ ap (λ x. x ++ drop n text) (sym a) ∙ ap (λ x. front ++ x) (sym b)

pub same_bytes : (xs ys : List ℕ) → true ≡ pointwise nat_eq xs ys → xs ≡ ys
same_bytes xs ys h = (bytes_eq-Decides xs ys).0 (sym h)

pub number_is : (text rest : List ℕ) (n : ℕ) → BeginsDigits text n rest → BeginsScalar text rest
number_is text rest n d = record {
  value = number (decimal n);
  is = d.is;
  shallow = omega arith;
  whole = record { value = unsigned n; is = refl; whole = refl; reads = number_of-decimal n d.fits; number = IsNumber-decimal n d.fits };
}

pub negative_is : (text behind rest : List ℕ) (n x : ℕ) → text ≡ x ∷ behind → x ≡ 45 → BeginsDigits behind n rest → 0 < n → n < 2 ^ 63 → BeginsScalar text rest
negative_is text behind rest zero x is minus d some fits = absurd (omega (arith, some))
negative_is text behind rest (suc n) x is minus d some fits = record {
  value = number (45 ∷ decimal (suc n));
  is = is ∙ ap (λ c. c ∷ behind) minus ∙ ap (λ l. 45 ∷ l) d.is;
  shallow = omega arith;
  whole = record { value = negative (negsuc n); is = refl; whole = refl; reads = number_of-negative n (omega (arith, fits)); number = IsNumber-signed_decimal (negsuc n) (omega (arith, fits)) };
}

-- ---- values

pub null_is : (text rest : List ℕ) → text ≡ json_text null ++ rest → BeginsScalar text rest
null_is text rest is = record { value = null; is = is; shallow = omega arith; whole = tt }

pub truth_is : (b : Bool) (text rest : List ℕ) → text ≡ json_text (boolean b) ++ rest → BeginsScalar text rest
truth_is b text rest is = record { value = boolean b; is = is; shallow = omega arith; whole = tt }

pub text_value : (text behind rest : List ℕ) (x : ℕ) → text ≡ x ∷ behind → x ≡ 34 → EndsText behind rest → BeginsScalar text rest
text_value text behind rest x is quote e = record {
  value = string e.value;
  is = is ∙ ap (λ q. q ∷ behind) quote ∙ ap (λ l. 34 ∷ l) (e.is ∙ sym (append_assoc (escape e.value) (34 ∷ []) rest));
  shallow = omega arith;
  whole = tt;
}

-- ---- what a call found, under another name

pub match_weaker : {A : Type 0} (N : Type 0) (P Q : A → Type 0) (o : Option A) → MatchOption o N P → ((a : A) → P a → Q a) → IfSome o Q
match_weaker N P Q None h f = tt
match_weaker N P Q (Some a) h f = f a h

pub some_weaker : {A : Type 0} (P Q : A → Type 0) (o : Option A) → IfSome o P → ((a : A) → P a → Q a) → IfSome o Q
some_weaker P Q None h f = tt
some_weaker P Q (Some a) h f = f a h

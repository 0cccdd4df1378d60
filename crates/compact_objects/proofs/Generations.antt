-- What is written as a number is read as that number.
use Rattle.std.proofs.Common.{◌≡◌, ℕ, ◌<◌, ◌^◌, List, ◌∷◌, Bool, true, false, Some, None, Ok, codes, refl, sym, ap, ◌∙◌, arith}
use Rattle.std.specs.Prelude.{decimal, Option, option_map, IfSome}
use Rattle.std.proofs.lemmas.Bool.{lt-ltb}
use Rattle.serde_json.specs.Data.{Num, unsigned, Data, null, boolean, number, string, array, object, Members}
use Rattle.serde_json.specs.Find.{get_member}
use Rattle.serde_json.specs.Read.{number_of}
use Rattle.serde_json.specs.Written.{compact_text, number_text}
use Rattle.serde_json.proofs.Numbers.{number_of-decimal}
use Rattle.trees.specs.Canonical.{IsCanonical, AreCanonicalMembers}
use Rattle.trees.proofs.PutOrder.{canonical_found}
use Rattle.objects.specs.Reading.{generation_of}
use Rattle.objects.specs.Steps.{guarded}
use Rattle.objects.specs.declared.fault.ReadError.TheVariants.{BadMeta}
use Rattle.compact_objects.proofs.Texts.{decimal_differs}

other_byte : (c n : ℕ) (r : List ℕ) → c ∷ r ≡ decimal n → (57 < c) → ⊥
other_byte c n r is high = decimal_differs c n (λ d small e. omega (arith, small, e, high)) r (sym is)

quote_byte : (n : ℕ) (r : List ℕ) → 34 ∷ r ≡ decimal n → ⊥
quote_byte n r is = decimal_differs 34 n (λ d small e. omega (arith, small, e)) r (sym is)

same_number : (m : Num) (n : ℕ) → n < 2 ^ 64 → number_of (number_text m) ≡ Some m → number_text m ≡ decimal n → m ≡ unsigned n
same_number m n small canonical is = let e = sym canonical ∙ ap number_of is ∙ number_of-decimal n small in cc

fits : (b : Bool) (n : ℕ) → b ≡ true → guarded BadMeta b n ≡ Ok n
fits true n h = refl
fits false n h = absurd cc

unsigned_is : (m : Num) (n : ℕ) → m ≡ unsigned n → n < 2 ^ 63 → generation_of (Some (number m)) ≡ Ok n
unsigned_is m n is small = ap (λ x. generation_of (Some (number x))) is ∙ fits _ n (lt-ltb n (2 ^ 63) small)

generation_is : (d : Data) (n : ℕ) → IsCanonical d → compact_text d ≡ decimal n → n < 2 ^ 63 → generation_of (Some d) ≡ Ok n
generation_is null n canonical is small = absurd (other_byte 110 n _ is (omega arith))
generation_is (boolean true) n canonical is small = absurd (other_byte 116 n _ is (omega arith))
generation_is (boolean false) n canonical is small = absurd (other_byte 102 n _ is (omega arith))
generation_is (number m) n canonical is small = unsigned_is m n (same_number m n (omega (arith, small)) canonical is) small
generation_is (string s) n canonical is small = absurd (quote_byte n _ is)
generation_is (array ds) n canonical is small = absurd (other_byte 91 n _ is (omega arith))
generation_is (object ms) n canonical is small = absurd (other_byte 123 n _ is (omega arith))

generation_by : (found : Option Data) (text : List ℕ) (n : ℕ) → ((d : Data) → found ≡ Some d → IsCanonical d) → Some text ≡ option_map compact_text found → text ≡ decimal n → n < 2 ^ 63 → generation_of found ≡ Ok n
generation_by None text n canonical is written small = absurd cc
generation_by (Some d) text n canonical is written small = generation_is d n (canonical d refl) (let same : text ≡ compact_text d = cc in sym same ∙ written) small

pub generation_found : (ms : Members) (text : List ℕ) (n : ℕ) → AreCanonicalMembers ms → Some text ≡ option_map compact_text (get_member (codes "generation") ms) → text ≡ decimal n → n < 2 ^ 63
    → generation_of (get_member (codes "generation") ms) ≡ Ok n
generation_found ms text n canonical is written small = generation_by (get_member (codes "generation") ms) text n (λ d e. canonical_found (codes "generation") d ms canonical e) is written small

pub some_weaker : {A : Type 0} (P Q : A → Type 0) (r : Option A) → ((x : A) → P x → Q x) → IfSome r P → IfSome r Q
some_weaker P Q None weaker h = tt
some_weaker P Q (Some x) weaker h = weaker x h

-- A number that an option of `race` says, and the parsers of such numbers.
use Rattle.std.proofs.Common.{◌≡◌, ◌≤◌, ◌<◌, ◌^◌, ℕ, ℤ, Option, Some, None, Result, Ok, Err, refl, ap, subst, ◌∙◌, arith, max, min}
use Rattle.std.specs.Prelude.{unwrap_or}
use Rattle.std.specs.declared.ops.Bound.TheVariants.{Included}
use Rattle.std.specs.Str.Parse.{ParsesUnsigned, digits_value, without_leading_plus}
use Rattle.clap.specs.Words.{NarrowsTo, ReadsOne, Text, end_of, start_of}
use Rattle.clap.specs.declared.builder.value_parser.ValueParser.{ValueParser}
use Rattle.clap.specs.declared.builder.value_parser.ValueParser.TheVariants as parsers
use Rattle.commands.specs.Grammar.{IsNumberBy}

-- the parser of `u64`, within these ends
pub narrowed_to : (whole narrow : ValueParser) (from to least most : ℤ) → whole ≡ parsers.Unsigned 0 18446744073709551615
    → from ≡ least → to ≡ most → NarrowsTo whole (start_of (Included from)) (end_of (Included to)) narrow
    → NarrowsTo (parsers.Unsigned 0 18446744073709551615) (start_of (Included least)) (end_of (Included most)) narrow
narrowed_to whole narrow from to least most whole_is from_is to_is narrows =
    let Of : ValueParser → Type 0 = λ w. NarrowsTo w (start_of (Included from)) (end_of (Included to)) narrow in
    let From : ℤ → Type 0 = λ i. NarrowsTo (parsers.Unsigned 0 18446744073709551615) (start_of (Included i)) (end_of (Included to)) narrow in
    let To : ℤ → Type 0 = λ i. NarrowsTo (parsers.Unsigned 0 18446744073709551615) (start_of (Included least)) (end_of (Included i)) narrow in
    subst To to_is (subst From from_is (subst Of whole_is narrows))

within : (least most n : ℕ) → least ≤ n → n ≤ most → max least (min n most) ≡ n
within least most n above below = omega arith

-- a number that was read, or none
pub read_number : {E : Type 0} (gives : Text → Result ℕ E → Type 0) (usual least most : ℕ) (text : Option Text) (given : Option ℕ) (n : ℕ)
    → least ≤ usual → usual ≤ most → most < 2 ^ 64
    → ((t : Text) (r : Result ℕ E) → gives t r → ParsesUnsigned 64 10 t r) → (text ≡ None → given ≡ None)
    → ((t : Text) → text ≡ Some t → ReadsOne gives t given) → n ≡ max least (min (unwrap_or given usual) most) → IsNumberBy usual least most text n
read_number gives usual least most None given n above below small parses none some is =
    is ∙ (ap (λ g. max least (min (unwrap_or g usual) most)) (none refl) ∙ within least most usual above below)
read_number gives usual least most (Some t) (Some k) n above below small parses none some is = λ numeral from to.
    let k_is : k ≡ digits_value 10 (without_leading_plus t) = (parses t (Ok k) (some t refl)).1 in
    is ∙ (ap (λ j. max least (min j most)) k_is ∙ within least most (digits_value 10 (without_leading_plus t)) from to)
read_number gives usual least most (Some t) None n above below small parses none some is = λ numeral from to.
    let low : digits_value 10 (without_leading_plus t) < 2 ^ 64 = under (digits_value 10 (without_leading_plus t)) most to small in
    let failed = some t refl in absurd (parses t (Err failed.0) failed.1 (numeral, low))
  where
    under : (k most : ℕ) → k ≤ most → most < 2 ^ 64 → k < 2 ^ 64
    under k most to small = omega arith

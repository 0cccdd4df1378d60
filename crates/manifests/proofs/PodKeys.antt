-- The name of a set's pod is one that a Pod may have.
use Rattle.std.proofs.Common.{◌≡◌, ℕ, suc, ◌<◌, ◌≤◌, ◌^◌, List, [], ◌∷◌, ◌++◌, length, get_or, Bool, true, false, decimal, refl, arith}
use Rattle.std.specs.Prelude.{◌&&◌, ◌||◌, nat_le, codes}
use Rattle.std.specs.List.{list_all}
use Rattle.std.proofs.lemmas.Bool.{and_parts, and_from, le-leb}
use borrow.Author.Tests.{leb-true}
use Rattle.std.proofs.lemmas.Fmt.{decimal_is_IsNumeral, decimal_nonempty}
use Rattle.std.proofs.lemmas.List.{length-append}
use Rattle.std.proofs.lemmas.Str.Parse.{digit_at}
use Rattle.objects.specs.declared.kind.Kind.TheVariants.{Pod}
use Rattle.objects.specs.Key.{KeyParts, is_key, key_parts}
use Rattle.objects.specs.Kind.{is_name}
use Rattle.objects.specs.Names.{is_alphanumeric, is_dns_label}
use Rattle.objects.specs.PodNames.{pod_name}
use Rattle.revisions.proofs.JoinedNames.{begins_names, joined_name}
use Rattle.objects.specs.Names.{most_label}

or_second : (b c : Bool) → c ≡ true → (b || c) ≡ true
or_second true c h = refl
or_second false c h = h

digit_is_alphanumeric : (d : ℕ) → 48 ≤ d → d ≤ 57 → is_alphanumeric d ≡ true
digit_is_alphanumeric d low high = or_second (nat_le 97 d && nat_le d 122) (nat_le 48 d && nat_le d 57) (and_from _ _ (le-leb 48 d low) (le-leb d 57 high))

pub all_alphanumeric : (ds : List ℕ) → ((i : ℕ) → i < length ds → (48 ≤ get_or ds i 0) × (get_or ds i 0 ≤ 57)) → list_all is_alphanumeric ds ≡ true
all_alphanumeric [] h = refl
all_alphanumeric (d ∷ ds) h =
    let first = h 0 (omega arith) in
    rw (digit_is_alphanumeric d first.0 first.1) (all_alphanumeric ds (λ i l. h (suc i) (omega arith)))

pub pod_key_fits : (k : KeyParts) (i : ℕ) → is_key k ≡ true → i < 2 ^ 32 → nat_le (length (pod_name k.name i)) most_label ≡ true → is_key (key_parts Pod k.namespace (pod_name k.name i)) ≡ true
pod_key_fits k i valid small fits =
    let parts = and_parts (is_dns_label k.namespace) (is_name k.kind k.name) valid in
    let numeral = decimal_is_IsNumeral i (omega arith) in
    let some : 0 < length (decimal i) = decimal_nonempty i (omega arith) in
    let short : length (pod_name k.name i) ≤ most_label = leb-true (length (pod_name k.name i)) most_label fits in
    let dash = length-append k.name (codes "-") in
    let long = length-append (k.name ++ codes "-") (decimal i) in
    rw (parts.0, joined_name k.name (decimal i) (begins_names k.kind k.name parts.1) (all_alphanumeric (decimal i) (λ j l. digit_at _ j numeral.0.1 l)) some (omega (arith, short, long, dash))) refl

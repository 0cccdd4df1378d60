-- The name of a set's claim is one that a PersistentVolumeClaim may have.
use Rattle.std.proofs.Common.{◌≡◌, ℕ, ◌-◌, ◌<◌, ◌≤◌, ◌^◌, List, ◌++◌, length, true, decimal, refl, sym, ap, ◌∙◌, append_assoc, arith}
use Rattle.std.specs.Prelude.{◌&&◌, nat_le, codes, slice_index}
use Rattle.std.specs.List.{list_all}
use Rattle.std.proofs.lemmas.Bool.{and_parts}
use borrow.Author.Tests.{leb-true}
use Rattle.std.proofs.lemmas.Fmt.{decimal_is_IsNumeral, decimal_nonempty}
use Rattle.std.proofs.lemmas.List.{get_or_append_left, length-append}
use Rattle.std.proofs.lemmas.List.Folds.{list_all-append}
use Rattle.std.proofs.lemmas.Str.Parse.{digit_at}
use Rattle.objects.specs.declared.kind.Kind.TheVariants.{PersistentVolumeClaim, StatefulSet}
use Rattle.objects.specs.Key.{KeyParts, is_key, key_parts}
use Rattle.objects.specs.Kind.{is_name}
use Rattle.objects.specs.Names.{is_alphanumeric, is_dns_label, is_label_byte, is_subdomain_byte, is_subdomain_name}
use Rattle.objects.specs.PodNames.{claim_name, pod_name}
use Rattle.revisions.proofs.JoinedNames.{BeginsNames, begins_names, joined_name}
use Rattle.manifests.proofs.PodKeys.{all_alphanumeric}

label_is_short : (s : List ℕ) → is_dns_label s ≡ true → length s ≤ 63
unfolding is_dns_label
label_is_short s h =
    let edges = and_parts (nat_le 1 (length s) && nat_le (length s) 63 && list_all is_label_byte s && is_alphanumeric (slice_index s 0)) (is_alphanumeric (slice_index s (length s - 1))) h in
    let bytes = and_parts (nat_le 1 (length s) && nat_le (length s) 63 && list_all is_label_byte s) (is_alphanumeric (slice_index s 0)) edges.0 in
    let sizes = and_parts (nat_le 1 (length s) && nat_le (length s) 63) (list_all is_label_byte s) bytes.0 in
    leb-true (length s) 63 (and_parts (nat_le 1 (length s)) (nat_le (length s) 63) sizes.0).1

-- two such names with a dash between them
dashed : (s t : List ℕ) → BeginsNames s → BeginsNames t → BeginsNames (s ++ codes "-" ++ t)
dashed s t hs ht = record {
  some = omega (arith, length-append (s ++ codes "-") t, length-append s (codes "-"));
  all = list_all-append is_subdomain_byte (s ++ codes "-") t ∙ rw (list_all-append is_subdomain_byte s (codes "-"), hs.all, ht.all) refl;
  first = ap is_alphanumeric (get_or_append_left (s ++ codes "-") t 0 0 (omega (arith, length-append s (codes "-"), hs.some)) ∙ get_or_append_left s (codes "-") 0 0 hs.some) ∙ hs.first;
}

pub claim_key_fits : (k : KeyParts) (t : List ℕ) (i : ℕ) → is_key k ≡ true → is_dns_label t ≡ true → i < 2 ^ 32 → length (pod_name k.name i) ≤ 63
    → is_key (key_parts PersistentVolumeClaim k.namespace (claim_name t k.name i)) ≡ true
claim_key_fits k t i valid label small short =
    let parts = and_parts (is_dns_label k.namespace) (is_name k.kind k.name) valid in
    let begin = t ++ codes "-" ++ k.name in
    let begins = dashed t k.name (begins_names StatefulSet t label) (begins_names k.kind k.name parts.1) in
    let numeral = decimal_is_IsNumeral i (omega arith) in
    let some : 0 < length (decimal i) = decimal_nonempty i (omega arith) in
    let bound : length t ≤ 63 = label_is_short t label in
    let pod = length-append (k.name ++ codes "-") (decimal i) in
    let dash = length-append k.name (codes "-") in
    let whole = length-append (t ++ codes "-") k.name in
    let front = length-append t (codes "-") in
    let same : begin ++ codes "-" ++ decimal i ≡ claim_name t k.name i =
    ap (λ s. s ++ decimal i) (append_assoc (t ++ codes "-") k.name (codes "-")) ∙ append_assoc (t ++ codes "-") (k.name ++ codes "-") (decimal i) in
    let named : is_subdomain_name (begin ++ codes "-" ++ decimal i) ≡ true =
    joined_name begin (decimal i) begins (all_alphanumeric (decimal i) (λ j l. digit_at _ j numeral.0.1 l)) some (omega (arith, short, bound, pod, dash, whole, front)) in
    rw parts.0 (ap is_subdomain_name (sym same) ∙ named)

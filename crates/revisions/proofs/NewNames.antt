-- The name of a new revision is one that a ControllerRevision may have.
use Rattle.std.proofs.Common.{◌≡◌, ℕ, zero, suc, ◌+◌, ◌≤◌, List, [], ◌∷◌, ◌++◌, length, take, Bool, true, Result, Ok, Err, refl, ap, ◌∙◌, arith}
use Rattle.std.specs.Prelude.{decimal, slice_index, String, string_bytes, IfOk}
use Rattle.std.specs.declared.alloc.Global.{Global}
use Rattle.std.specs.Int.{w32, to_be_bytes}
use Rattle.std.specs.List.{list_all}
use Rattle.std.proofs.lemmas.Bool.{and_parts}
use Rattle.std.proofs.lemmas.List.{length-take-le}
use Rattle.hex.proofs.HexLemmas.{length-encode_with}
use Rattle.hex.specs.Hex.{IsBytes, encode_lower, lower_digits}
use Rattle.sha2.proofs.Facts256.{length-sha256}
use Rattle.sha2.specs.Sha256.{digest_bytes, sha256}
use Rattle.objects.specs.declared.kind.Kind.TheVariants.{ControllerRevision}
use Rattle.objects.specs.Key.{KeyParts, is_key, key_parts}
use Rattle.objects.specs.Kind.{is_name}
use Rattle.objects.specs.MetadataShape.{metadata_fits}
use Rattle.objects.specs.Names.{is_alphanumeric, is_dns_label}
use Rattle.set_views.specs.Set.{SetParts}
use Rattle.revisions.specs.Built.{owned_metadata}
use Rattle.revisions.specs.Name.{revision_name}
use Rattle.revisions.proofs.Hexadecimal.{digits_are}
use Rattle.revisions.proofs.JoinedNames.{begins_names, joined_name}

pub owned_fits : (set : SetParts) → metadata_fits (owned_metadata set) ≡ true
unfolding metadata_fits
owned_fits set = refl

all_taken : (p : ℕ → Bool) (n : ℕ) (s : List ℕ) → list_all p s ≡ true → list_all p (take n s) ≡ true
all_taken p zero s h = refl
all_taken p (suc n) [] h = refl
all_taken p (suc n) (b ∷ s) h = let parts = and_parts (p b) (list_all p s) h in rw parts.0 (all_taken p n s parts.1)

bytes_append : (s t : List ℕ) → IsBytes s → IsBytes t → IsBytes (s ++ t)
bytes_append [] t hs ht i = ht i
bytes_append (b ∷ s) t hs ht zero = hs zero
bytes_append (b ∷ s) t hs ht (suc i) = bytes_append s t (λ j. hs (suc j)) ht i

to_be_small : (n : ℕ) → IsBytes (to_be_bytes w32 n)
to_be_small n zero = omega arith
to_be_small n (suc zero) = omega arith
to_be_small n (suc (suc zero)) = omega arith
to_be_small n (suc (suc (suc zero))) = omega arith
to_be_small n (suc (suc (suc (suc i)))) = omega arith

digest_bytes_small : (h : List ℕ) (n : ℕ) → IsBytes (digest_bytes h n)
unfolding digest_bytes
digest_bytes_small h zero = λ i. omega arith
digest_bytes_small h (suc n) = bytes_append (digest_bytes h n) (to_be_bytes w32 (slice_index h n)) (digest_bytes_small h n) (to_be_small (slice_index h n))

sha256_bytes : (m : List ℕ) → IsBytes (sha256 m)
unfolding sha256
sha256_bytes m = digest_bytes_small _ 8

-- the name is one of a ControllerRevision in the set's namespace
pub new_name_fits : (k : KeyParts) (text : List ℕ) (digits count : ℕ) → is_key k ≡ true → 1 ≤ digits → digits ≤ 64 → length k.name + 1 + digits ≤ 63
    → is_key (key_parts ControllerRevision k.namespace (revision_name k.name text digits count)) ≡ true
unfolding revision_name
new_name_fits k text digits count valid some most short =
    let parts = and_parts (is_dns_label k.namespace) (is_name k.kind k.name) valid in
    let digest = sha256 (text ++ decimal count) in
    let h = take digits (encode_lower digest) in
    let long : length h ≡ digits = length-take-le digits (encode_lower digest) (omega (arith, length-encode_with lower_digits digest, length-sha256 (text ++ decimal count))) in
    rw (parts.0, joined_name k.name h (begins_names k.kind k.name parts.1) (all_taken is_alphanumeric digits (encode_lower digest) (digits_are digest (sha256_bytes (text ++ decimal count)))) (omega (arith, long)) (omega (arith, long))) refl

-- so is each name that is found
pub made_fits : {E : Type 0} (result : Result (String Global) E) (k : KeyParts) (set text : List ℕ) (digits : ℕ) → set ≡ k.name → is_key k ≡ true → 1 ≤ digits → digits ≤ 64 → length k.name + 1 + digits ≤ 63
    → IfOk result (λ name. (count : ℕ) × (string_bytes name ≡ revision_name set text digits count))
    → IfOk result (λ name. is_key (key_parts ControllerRevision k.namespace (string_bytes name)) ≡ true)
made_fits (Ok name) k set text digits set_is valid some most short made =
    ap (λ s. is_key (key_parts ControllerRevision k.namespace s)) (made.1 ∙ ap (λ s. revision_name s text digits made.0) set_is) ∙ new_name_fits k text digits made.0 valid some most short
made_fits (Err e) k set text digits set_is valid some most short made = tt

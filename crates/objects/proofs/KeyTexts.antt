-- The texts of a key: how long they are, and what the bytes of all of them sum to.
use Rattle.std.proofs.Common.{◌≡◌, ℕ, ◌+◌, ◌≤◌, List, ◌++◌, length, codes, refl, true, arith}
use Rattle.std.specs.List.{sum}
use Rattle.std.proofs.lemmas.Bool.{and_parts, leb-true}
use Rattle.std.proofs.lemmas.List.Sums.{sum_by-append}
use Rattle.objects.specs.declared.kind.Kind.{Kind}
use Rattle.objects.specs.declared.kind.Kind.TheVariants.{StatefulSet, Pod, PersistentVolumeClaim, ControllerRevision}
use Rattle.objects.specs.Names.{is_dns_label, is_subdomain_name}
use Rattle.objects.specs.Kind.{kind_name, is_name}
use Rattle.objects.specs.Key.{KeyParts, is_key}
use Rattle.objects.specs.ShardOf.{key_text}

label_length : (s : List ℕ) → is_dns_label s ≡ true → length s ≤ 63
unfolding is_dns_label
label_length s h = leb-true (length s) 63 (and_parts _ _ (and_parts _ _ (and_parts _ _ (and_parts _ _ h).0).0).0).1

subdomain_length : (s : List ℕ) → is_subdomain_name s ≡ true → length s ≤ 253
unfolding is_subdomain_name
subdomain_length s h = leb-true (length s) 253 (and_parts _ _ (and_parts _ _ (and_parts _ _ (and_parts _ _ h).0).0).0).1

name_length : (kind : Kind) (s : List ℕ) → is_name kind s ≡ true → length s ≤ 253
name_length StatefulSet s h = omega (arith, label_length s h)
name_length Pod s h = subdomain_length s h
name_length PersistentVolumeClaim s h = subdomain_length s h
name_length ControllerRevision s h = subdomain_length s h

pub key_namespace_length : (key : KeyParts) → is_key key ≡ true → length key.namespace ≤ 63
key_namespace_length key h = label_length key.namespace (and_parts (is_dns_label key.namespace) (is_name key.kind key.name) h).0

pub key_name_length : (key : KeyParts) → is_key key ≡ true → length key.name ≤ 253
key_name_length key h = name_length key.kind key.name (and_parts (is_dns_label key.namespace) (is_name key.kind key.name) h).1

sum_of_five : (a b c d e : List ℕ) → sum (a ++ b ++ c ++ d ++ e) ≡ sum a + sum b + sum c + sum d + sum e
sum_of_five a b c d e = rw (sum_by-append (λ n. n) (a ++ b ++ c ++ d) e, sum_by-append (λ n. n) (a ++ b ++ c) d, sum_by-append (λ n. n) (a ++ b) c, sum_by-append (λ n. n) a b) refl

-- the sum of the text is that of its parts
pub key_text_sum : (key : KeyParts) → sum (key_text key) ≡ sum (kind_name key.kind) + 47 + sum key.namespace + 47 + sum key.name
key_text_sum key = sum_of_five (kind_name key.kind) (codes "/") key.namespace (codes "/") key.name

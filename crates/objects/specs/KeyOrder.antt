-- The order of keys is total, and keys that compare alike are one.
use Rattle.std.proofs.Common.{◌≡◌, ℕ, List, true, refl, rules, sym, ap, ◌∙◌}
use Rattle.std.specs.Ordering.{nat_cmp, on, then_cmp, is_eq, eq_by_cmp}
use Rattle.std.specs.declared.cmp.Ordering.{Ordering}
use Rattle.std.specs.declared.cmp.Ordering.TheVariants.{Less, Equal, Greater}
use Rattle.std.specs.Cmp.{IsTotalOrder}
use Rattle.std.specs.Cmp.Lexicographic.{slice_cmp}
use Rattle.std.specs.Cmp.Rules.{comparing}
use Rattle.std.proofs.lemmas.Map.Lookups.{CmpEqualImpliesEq, exact_pairs, exact_unsigned, exact_bytes}
use Rattle.objects.specs.declared.kind.Kind.{Kind}
use Rattle.objects.specs.Key.{KeyParts, key_cmp, key_fed, kind_index, kind_at, kind_at-kind_index}

pub key_cmp_total : IsTotalOrder key_cmp
key_cmp_total = search (comparing, rules)

-- kinds with the same index are one
exact_kinds : CmpEqualImpliesEq (on kind_index nat_cmp)
exact_kinds a b tie = sym (kind_at-kind_index a) ∙ ap kind_at (exact_unsigned (kind_index a) (kind_index b) tie) ∙ kind_at-kind_index b

exact_names : CmpEqualImpliesEq (then_cmp (on (λ (p : List ℕ × List ℕ). p.0) (slice_cmp nat_cmp)) (on (λ (p : List ℕ × List ℕ). p.1) (slice_cmp nat_cmp)))
exact_names = exact_pairs (slice_cmp nat_cmp) (slice_cmp nat_cmp) exact_bytes exact_bytes

-- keys that compare alike are one
pub exact_keys : CmpEqualImpliesEq key_cmp
exact_keys a b tie =
    ap (λ (p : Kind × (List ℕ × List ℕ)). record { kind = p.0; namespace = p.1.0; name = p.1.1 })
    (exact_pairs (on kind_index nat_cmp) _ exact_kinds exact_names (a.kind, (a.namespace, a.name)) (b.kind, (b.namespace, b.name)) tie)

pub equal_from : (r : Ordering) → is_eq r ≡ true → r ≡ Equal
equal_from Less e = cc
equal_from Equal e = refl
equal_from Greater e = cc

-- so equal keys feed a hasher alike
pub keys_fed_alike : (a b : KeyParts) → eq_by_cmp key_cmp a b ≡ true → key_fed a ≡ key_fed b
keys_fed_alike a b same = ap key_fed (exact_keys a b (equal_from (key_cmp a b) same))

use Rattle.std.proofs.Common.{◌≡◌, length, drop, replicate, slice_set, List, ℕ, ◌++◌, sym, ap, ◌∙◌}
use Rattle.version_map.proofs.ShortNames.{holds}
use Rattle.version_map.proofs.short_name.ShortName.of.Goals as goal

pub invariant_of-result : goal.invariant_of-result
invariant_of-result c =
    let n = c.args.name.now in
    let copied : c.copy_from_slice.new.self ≡ n = c.copy_from_slice.ensures.after ∙ c.as_bytes.ensures.value in
    (holds n c.if-count-gt-MOST.false (λ i. (c.type_inv.name i).fits) _ (ap (λ (l : List ℕ). slice_set (l ++ drop (length n) (replicate 16 0)) 15 (length n)) (sym copied))).0

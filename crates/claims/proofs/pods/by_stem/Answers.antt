use Rattle.std.proofs.Common.{◌≡◌, [], ◌∷◌, ◌++◌, map, cond, decimal, sym, ap, ◌∙◌, rules}
use Rattle.std.specs.Prelude.{bytes_eq}
use Rattle.std.specs.BTreeMap.{is_at}
use Rattle.std.specs.Cmp.Lexicographic.{slice_cmp}
use Rattle.std.specs.Map.{lookup}
use Rattle.std.specs.Map.Iter.{deref_pair}
use Rattle.std.specs.Ordering.{nat_cmp}
use Rattle.std.proofs.lemmas.List.{map-append}
use Rattle.std.proofs.lemmas.Map.Iter.{iter_end}
use Rattle.objects.specs.PodNames.{pod_name}
use Rattle.claims.specs.Pods.{with_digits}
use Rattle.claims.proofs.PodClaims.{items_of, named, one_more, one_named}
use Rattle.claims.proofs.pods.by_stem.Goals as goal

pub returns : goal.returns
returns c = λ stem ordinal small.
    let all : map deref_pair c.loop-name.yielded ≡ c.args.claims.now.entries = search (rules, iter_end) in
    c.loop-name.invariant stem ordinal small ∙ ap (named (pod_name stem ordinal)) all
    ∙ one_named (pod_name stem ordinal) c.args.claims.now c.into_iter-name-iterator.ensures.into_iter_gives.5

pub loop-name-init : goal.loop-name-init
loop-name-init c = λ stem ordinal small.
    ap (λ es. with_digits (decimal ordinal) (items_of (lookup (is_at (λ k. slice_cmp nat_cmp stem k.now)) es))) c.new-stems.ensures.empty

pub loop-name-preserved : goal.loop-name-preserved
loop-name-preserved c = λ stem ordinal small.
    let name = pod_name stem ordinal in
    let key = c.in-Some.name.now in
    let claim = c.in-Some.claim.now in
    c.in_ok-put.ensures stem ordinal small ∙ ap (λ l. l ++ cond (bytes_eq name key.now) (claim.now ∷ []) []) (c.loop-name.invariant stem ordinal small)
    ∙ sym (ap (named name) (map-append deref_pair c.loop-name.yielded _) ∙ one_more name (map deref_pair c.loop-name.yielded) key claim)

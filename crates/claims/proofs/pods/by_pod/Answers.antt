use Rattle.std.proofs.Common.{◌<◌, ◌++◌, [], length, get_or, decimal, refl, ap, ◌∙◌, arith}
use Rattle.std.specs.Prelude.{codes}
use Rattle.std.specs.BTreeMap.{is_at}
use Rattle.std.specs.Cmp.Lexicographic.{slice_cmp}
use Rattle.std.specs.List.{cons_option}
use Rattle.std.specs.Map.{lookup}
use Rattle.std.specs.Ordering.{nat_cmp}
use Rattle.objects.specs.PodNames.{claim_name}
use Rattle.set_views.specs.Claims.{Claim}
use Rattle.claims.specs.Listed.{found_in}
use Rattle.claims.specs.Pods.{claims_in, under}
use Rattle.claims.proofs.ChangeLists.{change_more}
use Rattle.claims.proofs.PodClaims.{claim_stem, items_of}
use Rattle.claims.proofs.pods.by_pod.Goals as goal

pub loop-template-init : goal.loop-template-init
loop-template-init c = λ ordinal small. ap (λ es. claims_in (items_of (lookup (is_at (λ k. slice_cmp nat_cmp (decimal ordinal) k.now)) es))) c.new-pods.ensures.empty

pub loop-template-preserved : goal.loop-template-preserved
loop-template-preserved c = λ ordinal small.
    let set = c.args.set.now.object.key.name in
    let templates = c.args.set.now.claims.items in
    let listed = c.args.claims.now in
    let template = c.template-item.result in
    let before = claims_in (under c.loop-template.pods (decimal ordinal)) in
    let inside : c.loop-template.template-index < length templates = omega (arith, ap length c.deref-template-items.ensures.value) in
    let found = c.in_ok-stems.ensures (c.as_str.result.now ++ codes "-" ++ set) ordinal small
    ∙ ap (λ n. cons_option (found_in listed n) []) (claim_stem c.as_str.result.now set ordinal ∙ ap (λ t. claim_name t set ordinal) c.as_str.ensures) in
    change_more (λ (x : Claim). found_in listed (claim_name x.0 set ordinal)) templates c.loop-template.template-index template
    (found_in listed (claim_name template.0 set ordinal)) before (claims_in (under c.add_template.new.pods (decimal ordinal))) inside
    (c.template-item.is ∙ ap (λ l. get_or l c.loop-template.template-index template) c.deref-template-items.ensures.value) (c.loop-template.invariant ordinal small)
    (c.in_ok-add_template.ensures (decimal ordinal) ∙ ap (λ l. before ++ l) found) refl

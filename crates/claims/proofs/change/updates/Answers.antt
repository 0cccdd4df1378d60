use Rattle.std.proofs.Common.{ℕ, List, ◌<◌, ◌^◌, Bor, ap, ◌∙◌, arith}
use Rattle.std.specs.List.{filter_map}
use Rattle.objects.specs.declared.object.Object.{Object}
use Rattle.objects.specs.PodNames.{claim_name, pod_name}
use Rattle.set_views.specs.Claims.{Claim}
use Rattle.set_views.specs.Set.{set_parts}
use Rattle.claims.specs.Changes.{update}
use Rattle.claims.specs.Listed.{IsFor, claim_named}
use Rattle.claims.proofs.ChangeLists.{found_first, read_first}
use Rattle.claims.proofs.change.updates.Goals as goal

pub returns-in_default : goal.returns-in_default
unfolding IsFor
returns-in_default c =
    let set = set_parts c.args.set.now in
    let f = update set (pod_name set.object.key.name c.args.ordinal) c.args.owner.now in
    let g = λ (x : Claim). claim_named c.args.listed.now (claim_name x.0 set.object.key.name c.args.ordinal) in
    let small : c.args.ordinal < 2 ^ 32 = omega arith in
    c.new.ensures.items ∙ ap (filter_map f) (c.in_default.ensures ∙ c.requires c.args.ordinal small) ∙ found_first f g set.claims

pub returns : goal.returns
unfolding IsFor
returns c =
    let set = set_parts c.args.set.now in
    let claims = c.in-Some.claims.now in
    let f = update set (pod_name set.object.key.name c.args.ordinal) c.args.owner.now in
    let g = λ (x : Claim). claim_named c.args.listed.now (claim_name x.0 set.object.key.name c.args.ordinal) in
    let small : c.args.ordinal < 2 ^ 32 = omega arith in
    let named = c.as_str.ensures.value ∙ c.in_ok-pod.ensures in
    c.in_ok-changes.ensures ∙ ap (λ p. filter_map (λ (x : Bor (List ℕ) × Bor Object). update set p c.args.owner.now x.1.now) claims) named
    ∙ read_first f (λ x. x.1.now) claims ∙ ap (filter_map f) (c.in-Some.ensures ∙ c.requires c.args.ordinal small) ∙ found_first f g set.claims

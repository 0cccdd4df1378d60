use Rattle.std.proofs.Common.{List, subst}
use Rattle.objects.specs.declared.object.Object.{Object}
use Rattle.set_views.specs.Set.{set_parts}
use Rattle.sets.specs.Plan.{IsPlan}
use Rattle.commands.proofs.plan.plan_of_set.Goals as goal

pub returns : goal.returns
returns c =
    let set = set_parts c.args.set.now in
    let plan = c.plan.result in
    let Pods : List Object → Type 0 = λ pods. IsPlan set pods c.as_slice-2.result.now c.as_slice-3.result.now c.args.digits plan in
    let Claims : List Object → Type 0 = λ claims. IsPlan set c.args.listed.now.pods.items claims c.as_slice-3.result.now c.args.digits plan in
    let Revisions : List Object → Type 0 = λ revisions. IsPlan set c.args.listed.now.pods.items c.args.listed.now.claims.items revisions c.args.digits plan in
    subst Revisions c.as_slice-3.ensures.value (subst Claims c.as_slice-2.ensures.value (subst Pods c.as_slice.ensures.value c.plan.ensures))

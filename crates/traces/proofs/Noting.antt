-- The notes of one plan more.
use Rattle.std.proofs.Common.{◌≡◌, ℕ, Bool, true, false, ◌+◌, ◌<◌, ◌==◌, List, ◌∷◌, length, get_or, drop, Option, Some, None, cond, refl, sym, ap, ◌∙◌, arith}
use Rattle.std.specs.Option.{option_or}
use Rattle.std.specs.Ordering.{is_eq, nat_cmp}
use Rattle.std.proofs.lemmas.Bool.Decides.{nat_tests}
use Rattle.std.proofs.lemmas.List.{drop_more}
use Rattle.traces.specs.declared.refused_plan.RefusedPlan.{RefusedPlan}
use Rattle.traces.specs.Noted.{plan_if}
use Rattle.traces.specs.RefusedLines.{plan_in}

tied : (m n : ℕ) → is_eq (nat_cmp m n) ≡ (m == n)
tied m n = grind (arith, nat_tests)

step_by : (o : Option RefusedPlan) (b : Bool) (plan : RefusedPlan) (rest : Option RefusedPlan)
    → option_or (option_or o (cond b (Some plan) None)) rest ≡ option_or o (cond b (Some plan) rest)
step_by None true plan rest = refl
step_by None false plan rest = refl
step_by (Some e) b plan rest = refl

-- what is noted, and what is left to note
pub noted_more : (plans : List RefusedPlan) (i place : ℕ) (plan : RefusedPlan) (old new whole : Option RefusedPlan) → i < length plans → plan ≡ get_or plans i plan
    → new ≡ option_or old (plan_if place plan) → option_or old (plan_in (drop i plans) place) ≡ whole → option_or new (plan_in (drop (i + 1) plans) place) ≡ whole
noted_more plans i place plan old new whole inside is noted so_far =
    let rest = drop (i + 1) plans in
    ap (λ o. option_or o (plan_in rest place)) noted ∙ step_by old (plan.place == place) plan _
    ∙ ap (λ xs. option_or old (plan_in xs place)) (ap (λ x. x ∷ rest) is ∙ sym (drop_more plans i plan inside))
    ∙ so_far

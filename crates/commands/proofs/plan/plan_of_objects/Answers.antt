use Rattle.std.proofs.Common.{sym, ap, inr, ◌∙◌}
use Rattle.std.specs.Prelude.{find}
use Rattle.std.proofs.lemmas.Option.{IfSome_then}
use Rattle.std.proofs.lemmas.Result.{IfErr-weaker, IfOk-weaker}
use Rattle.plan_lines.specs.Objects.{is_named}
use Rattle.set_views.specs.Set.{set_parts}
use Rattle.commands.specs.Halts.{name_of}
use Rattle.commands.proofs.plan.plan_of_objects.Goals as goal

pub returns-clause-planned : goal.returns-clause-planned
returns-clause-planned c =
    let asked = c.args.asked.now in
    let found = sym (c.in-Some.ensures ∙ ap (λ sets. find (is_named asked.namespace.now asked.name.now) sets) c.as_slice.ensures.value) in
    IfOk-weaker c.plan_to_write.result _ _
    (λ plan planned. (c.in-Some.object.now, found, (set_parts c.in_ok-set.set, c.in_ok-set.ensures, planned))) c.plan_to_write.ensures.planned

pub returns-clause-refused : goal.returns-clause-refused
returns-clause-refused c =
    let asked = c.args.asked.now in
    let found = sym (c.in-Some.ensures ∙ ap (λ sets. find (is_named asked.namespace.now asked.name.now) sets) c.as_slice.ensures.value) in
    IfErr-weaker c.plan_to_write.result _ _
    (λ halt refused. IfSome_then (name_of halt) refused
    (λ name is. inr (c.in-Some.object.now, found, inr (set_parts c.in_ok-set.set, c.in_ok-set.ensures, is)))) c.plan_to_write.ensures.refused

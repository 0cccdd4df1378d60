use Rattle.std.proofs.Common.{◌≡◌, [], ◌∷◌, drop, sym, ap, ◌∙◌}
use Rattle.std.specs.List.{prefix_len}
use Rattle.compact.specs.Plain.{is_plain}
use Rattle.compact_objects.proofs.Cursors.{inside_begins, run_ends}
use Rattle.compact_objects.proofs.Texts.{begins}
use Rattle.compact_objects.proofs.text.quoted_rest.Goals as goal

pub returns-clause-rest : goal.returns-clause-rest
returns-clause-rest c s rest is =
    let inside = c.in_ok-inside.inside.now in
    let found = c.in_ok-rest.rest.now in
    let at = begins c.args.text.now (34 ∷ []) inside c.in_ok-inside.ensures.cases.0 c.in_ok-inside.ensures.cases.1 in
    let end = begins c.split_at.result.1.now (34 ∷ []) found c.in_ok-rest.ensures.cases.0 c.in_ok-rest.ensures.cases.1 in
    let ends : drop (prefix_len is_plain inside) inside ≡ 34 ∷ found = ap (λ n. drop n inside) (sym c.plain_end.ensures.value) ∙ sym c.split_at.ensures.back ∙ end in
    run_ends inside rest found ends (inside_begins c.args.text.now inside s rest at is)

pub returns-clause-quote : goal.returns-clause-quote
returns-clause-quote c =
    (c.in_ok-inside.inside.now, begins c.args.text.now (34 ∷ []) c.in_ok-inside.inside.now c.in_ok-inside.ensures.cases.0 c.in_ok-inside.ensures.cases.1)

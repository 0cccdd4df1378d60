use Rattle.std.proofs.Common.{◌++◌, ◌∷◌, Some, codes, sym, ap, ◌∙◌}
use Rattle.std.proofs.lemmas.Bool.Decides.{Decides-eqb}
use Rattle.std.proofs.lemmas.Slice.Eq.{strip_suffix_is}
use Rattle.plain.proofs.CompactGets.{parts_joined, stripped}
use Rattle.plain.proofs.lines.compact_line.named_by.Goals as goal

pub returns-clause-text : goal.returns-clause-text
returns-clause-text c =
    parts_joined c.args.line.now _ _ _ c.in_ok-rest.rest.now c.in_ok-kind.rest.now c.in_ok-rest-2.rest.now c.in_ok-name.rest.now c.in_ok-rest-3.rest.now
    (stripped _ (codes "{\"do\":\"get\",\"kind\":\"") _ c.in_ok-rest.ensures.cases.0 c.in_ok-rest.ensures.cases.1) (c.in_ok-kind.ensures ∙ ap (λ s. s ++ 34 ∷ c.in_ok-kind.rest.now) c.in_ok-kind-2.ensures)
    (stripped _ (codes ",\"name\":\"") _ c.in_ok-rest-2.ensures.cases.0 c.in_ok-rest-2.ensures.cases.1) (c.in_ok-name.ensures ∙ ap (λ s. s ++ 34 ∷ c.in_ok-name.rest.now) (sym c.in_ok-name-2.ensures.value))
    (stripped _ (codes ",\"namespace\":\"") _ c.in_ok-rest-3.ensures.cases.0 c.in_ok-rest-3.ensures.cases.1)
    (strip_suffix_is Decides-eqb c.in_ok-rest-3.rest.now (codes "\"}") (Some c.in_ok-namespace.namespace) c.in_ok-namespace.ensures.cases ∙ ap (λ s. s ++ codes "\"}") (sym c.in_ok-namespace-2.ensures.value))

use Rattle.std.proofs.Common.{ap, sym, ◌∙◌}
use Rattle.race_scripts.specs.Gone.{same_all}
use Rattle.race_scripts.proofs.Going.{told_as}
use Rattle.race_scripts.proofs.gone.is_told_as.Goals as goal

pub returns-in-Some : goal.returns-in-Some
returns-in-Some c = λ is.
    let found = c.args.found.now in
    told_as found _ _ c.in-Some.first.now c.in-Some.ensures.cases.0 (ap (same_all found) (sym c.as_slice.ensures.value) ∙ sym c.same_all.ensures ∙ is)

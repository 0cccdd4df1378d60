use Rattle.std.proofs.Common.{Some, ap, sym, ◌∙◌}
use Rattle.race_scripts.proofs.Sameness.{requests_equal}
use Rattle.race_scripts.proofs.gone.asks_that.Goals as goal

pub returns-in-Some : goal.returns-in-Some
returns-in-Some c = λ is.
    sym c.in_ok-asked.ensures ∙ c.in-Some.is ∙ ap Some (requests_equal c.in-Some.asked c.args.request.now (sym c.same_request-same.ensures ∙ is))

use Rattle.std.proofs.Common.{codes, refl, subst, sym}
use Rattle.clap.specs.Words.{found_of, one_of, rows_of}
use Rattle.commands.specs.CommandLine.{AreOptionsBy}
use Rattle.commands.proofs.Serving.{false-true, rows-met, under-met, under-unmet}
use Rattle.commands.proofs.args.finding_in.Goals as goal

pub returns-in-Some : goal.returns-in-Some
returns-in-Some c =
    let m = c.args.matches.now in
    let named = c.in-Some.ensures.found.0 refl in (
      under-met (codes "outcomes") m named,
      subst (λ rs. AreOptionsBy (λ option. one_of option rs) c.outcomes_words.result)
          (sym (rows-met (codes "outcomes") m (rows_of (found_of c.in-Some.outcomes.now)) named c.in-Some.ensures.rows)) c.outcomes_words.ensures,
    )

pub returns-in-None : goal.returns-in-None
returns-in-None c = (under-unmet (codes "outcomes") c.args.matches.now (λ is. false-true (c.in-None.ensures.found.1 is)), c.capacity_in.ensures)

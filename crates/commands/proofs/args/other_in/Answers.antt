use Rattle.std.proofs.Common.{codes, refl, subst, sym}
use Rattle.clap.specs.Words.{found_of, one_of, rows_of}
use Rattle.commands.specs.CommandLine.{IsRaceBy}
use Rattle.commands.proofs.Serving.{false-true, rows-met, under-met, under-unmet, scripted_other}
use Rattle.commands.proofs.args.other_in.Goals as goal

pub returns-in-Some : goal.returns-in-Some
returns-in-Some c =
    let m = c.args.matches.now in
    let named = c.in-Some.ensures.found.0 refl in (
      under-met (codes "race") m named,
      subst (λ rs. IsRaceBy (λ option. one_of option rs) c.race_words.result) (sym (rows-met (codes "race") m (rows_of (found_of c.in-Some.race.now)) named c.in-Some.ensures.rows))
          c.race_words.ensures.by,
      c.race_words.ensures.allowed,
    )

pub returns-in-None : goal.returns-in-None
returns-in-None c =
    scripted_other c.args.matches.now c.scripted_in.result
    (under-unmet (codes "race") c.args.matches.now (λ is. false-true (c.in-None.ensures.found.1 is))) c.scripted_in.ensures

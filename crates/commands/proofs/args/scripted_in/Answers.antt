use Rattle.std.proofs.Common.{codes, refl, subst, sym}
use Rattle.clap.specs.Words.{found_of, one_of, rows_of}
use Rattle.commands.specs.CommandLine.{IsScriptBy}
use Rattle.commands.proofs.Serving.{false-true, rows-met, served_scripted, under-met, under-unmet}
use Rattle.commands.proofs.args.scripted_in.Goals as goal

pub returns-in-Some : goal.returns-in-Some
returns-in-Some c =
    let m = c.args.matches.now in
    let named = c.in-Some.ensures.found.0 refl in (
      under-met (codes "replay") m named,
      subst (λ rs. IsScriptBy (λ flag. one_of flag rs) c.script_words.result)
          (sym (rows-met (codes "replay") m (rows_of (found_of c.in-Some.replay.now)) named c.in-Some.ensures.rows)) c.script_words.ensures,
    )

pub returns-in-None : goal.returns-in-None
returns-in-None c =
    served_scripted c.args.matches.now c.serving_in.result
    (under-unmet (codes "replay") c.args.matches.now (λ is. false-true (c.in-None.ensures.found.1 is))) c.serving_in.ensures

use Rattle.std.proofs.Common.{codes, refl, subst, sym}
use Rattle.clap.specs.Words.{found_of, one_of, rows_of}
use Rattle.commands.specs.CommandLine.{IsScriptBy}
use Rattle.commands.proofs.Serving.{false-true, found_serving, rows-met, under-met, under-unmet}
use Rattle.commands.proofs.args.serving_in.Goals as goal

pub returns-in-Some : goal.returns-in-Some
returns-in-Some c =
    let m = c.args.matches.now in
    let named = c.in-Some.ensures.found.0 refl in (
      under-met (codes "cluster") m named,
      subst (λ rs. IsScriptBy (λ flag. one_of flag rs) c.script_words.result)
          (sym (rows-met (codes "cluster") m (rows_of (found_of c.in-Some.cluster.now)) named c.in-Some.ensures.rows)) c.script_words.ensures,
    )

pub returns-in-None : goal.returns-in-None
returns-in-None c =
    found_serving c.args.matches.now c.finding_in.result
    (under-unmet (codes "cluster") c.args.matches.now (λ is. false-true (c.in-None.ensures.found.1 is))) c.finding_in.ensures

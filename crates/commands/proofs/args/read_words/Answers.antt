use Rattle.std.proofs.Common.{◌≡◌, rules, map, Some, codes, [], refl, sym, ap, subst, ◌∙◌}
use Rattle.std.specs.Prelude.{unwrap_or}
use Rattle.clap.specs.Kinds.{HasKind}
use Rattle.clap.specs.Words.{app_of, found_of, rows_of, subcommand_name_of, subcommand_of, subcommand_rows_of}
use Rattle.commands.specs.declared.args.CommandLine.{CommandLine}
use Rattle.commands.specs.declared.args.CommandLine.TheVariants.{Plan}
use Rattle.commands.specs.CommandLine.{IsCommandLine}
use Rattle.commands.specs.Forms.{IsFlagBy}
use Rattle.commands.specs.Grammar.{IsDigitsBy, faults_of, rows_under, stsctl_app}
use Rattle.commands.proofs.CommandLine.{failed, parsed}
use Rattle.commands.proofs.Serving.{asked-plan, digits-is, false-true, met, other_asked, plan-is, plan_flag-is, rows-met, under-met, under-unmet}
use Rattle.commands.proofs.args.read_words.Goals.{in-Some, in-None}
use Rattle.commands.proofs.args.read_words.Goals as goal

pub returns-in_err-matches-clause-faults : goal.returns-in_err-matches-clause-faults
returns-in_err-matches-clause-faults g c =
    let has : HasKind (faults_of (map g.S.AsStr.text c.args.words.now)) c.in_err-matches.field-0.0 =
    failed (app_of c.in_ok-grammar.field-0) (map g.S.AsStr.text c.args.words.now) c.in_err-matches.field-0.0 c.in_ok-grammar.ensures
    c.in_err-matches.ensures.kinds in search (rules, has)

pub returns-clause-faults : goal.returns-clause-faults
returns-clause-faults g c =
    parsed (app_of c.in_ok-grammar.field-0) (map g.S.AsStr.text c.args.words.now) c.in_ok-grammar.ensures c.in_ok-matches.ensures.kinds

pub returns-clause-asked : goal.returns-clause-asked
returns-clause-asked g c =
    let words = map g.S.AsStr.text c.args.words.now in
    let m = c.in_ok-matches.matches in
    let same : subcommand_rows_of m ≡ subcommand_of stsctl_app words =
    met (app_of c.in_ok-grammar.field-0) words m c.in_ok-grammar.ensures c.in_ok-matches.ensures.matches in
    let none = parsed (app_of c.in_ok-grammar.field-0) words c.in_ok-grammar.ensures c.in_ok-matches.ensures.kinds in
    elim c.match-subcommand_matches.branch [
      | in-Some w ↦
          let plan = w.in-Some.plan.now in
          let said = w.in-Some.ensures in
          let rows : rows_under (codes "plan") (subcommand_rows_of m) ≡ rows_of (found_of plan) =
          rows-met (codes "plan") m (rows_of (found_of plan)) (said.found.0 refl) said.rows in
          let says = w.plan_words.ensures in
          let asked : IsCommandLine words (Plan w.plan_words.result) = (
            asked-plan words m none same (under-met (codes "plan") m (said.found.0 refl)),
            (
              says.namespace ∙ ap (λ o. unwrap_or o (codes "default")) (plan-is words m (codes "namespace") (rows_of (found_of plan)) same rows),
              says.name ∙ ap (λ o. unwrap_or o []) (plan-is words m (codes "set") (rows_of (found_of plan)) same rows),
              subst (λ t. IsDigitsBy t w.plan_words.result.digits) (digits-is words m (rows_of (found_of plan)) same rows) says.digits,
              says.some,
              says.most,
              subst (λ t. IsFlagBy t w.plan_words.result.brief) (plan_flag-is words m (codes "brief") (rows_of (found_of plan)) same rows) says.brief,
              subst (λ t. IsFlagBy t w.plan_words.result.shows_line) (plan_flag-is words m (codes "where") (rows_of (found_of plan)) same rows) says.shows_line,
            ),
          ) in
          subst (λ (a : CommandLine). IsCommandLine words a) (sym w.result-is) asked
      | in-None w ↦
          let other : subcommand_name_of m ≡ Some (codes "plan") → ⊥ = λ is. false-true (w.in-None.ensures.found.1 is) in
          let asked : IsCommandLine words w.other_in.result =
          other_asked words m w.other_in.result none same (under-unmet (codes "plan") m other) w.other_in.ensures in
          subst (λ (a : CommandLine). IsCommandLine words a) (sym w.result-is) asked
    ]

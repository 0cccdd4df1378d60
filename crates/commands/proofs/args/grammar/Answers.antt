use Rattle.std.proofs.Common.{◌≡◌, ◌∙◌, ap, refl, true, codes}
use Rattle.std.proofs.lemmas.Result.{IfOk-weaker}
use Rattle.clap.specs.Words.{App, app_of, new_app, with_subcommand}
use Rattle.clap.specs.Simple.{Shape, app_of_fields}
use Rattle.commands.specs.Grammar.{cluster_app, outcomes_app, plan_app, race_app, replay_app, serve_app}
use Rattle.commands.proofs.args.grammar.Goals as goal

pub returns : goal.returns
returns c =
    let required : App → App = λ a. record a { top = record a.top { subcommand_required = true } } in
    let versioned : App → App = λ a. record a { top = record a.top { has_version = true } } in
    let and : Shape → App → App = λ s a. with_subcommand a s in
    let top_is : app_of c.subcommand_required-command.result ≡ required (versioned (new_app (codes "stsctl"))) =
    ap app_of_fields c.subcommand_required-command.ensures ∙ ap (λ f. required (app_of_fields f)) c.about.ensures
    ∙ ap (λ f. required (app_of_fields f)) c.version.ensures ∙ ap (λ f. required (versioned (app_of_fields f))) c.in_ok-bin_name.ensures.0
    ∙ ap (λ (a : App). required (versioned a)) c.new.ensures.app in
    let one_is = c.in_ok-command.ensures serve_app c.serve_grammar.ensures refl ∙ ap (and serve_app.top) top_is in
    let two_is = c.in_ok-command-2.ensures replay_app c.replay_grammar.ensures refl ∙ ap (and replay_app.top) one_is in
    let three_is = c.in_ok-command-3.ensures cluster_app c.cluster_grammar.ensures refl ∙ ap (and cluster_app.top) two_is in
    let four_is = c.in_ok-command-4.ensures plan_app c.plan_grammar.ensures refl ∙ ap (and plan_app.top) three_is in
    let five_is = c.in_ok-command-5.ensures race_app c.race_grammar.ensures refl ∙ ap (and race_app.top) four_is in
    IfOk-weaker c.with_word-6.result _ _ (λ r h. h ∙ ap (and outcomes_app.top) five_is) (c.with_word-6.ensures outcomes_app c.outcomes_grammar.ensures refl)

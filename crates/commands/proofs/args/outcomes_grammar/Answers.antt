use Rattle.std.proofs.Common.{◌≡◌, ◌∙◌, ap, ap₂, codes}
use Rattle.std.proofs.lemmas.Result.{IfOk-weaker}
use Rattle.clap.specs.Simple.{app_of_fields}
use Rattle.clap.specs.Words.{app_of, new_app, rule_of, with_rule}
use Rattle.clap.specs.declared.builder.value_parser.ValueParser.TheVariants as parsers
use Rattle.commands.specs.Grammar.{option_rule}
use Rattle.commands.proofs.args.outcomes_grammar.Goals as goal

pub returns : goal.returns
returns c =
    let script = c.number_arg.ensures in
    let script_is : rule_of c.number_arg.result ≡ option_rule (codes "script") (parsers.Unsigned 1 1000000) =
    script.rule ∙ ap (option_rule (codes "script")) c.from_1_to_1000000.ensures in
    let top_is : app_of c.after_help.result ≡ new_app (codes "outcomes") = ap app_of_fields c.after_help.ensures ∙ ap app_of_fields c.about.ensures ∙ c.new.ensures.app in
    let one_is = c.in_ok-arg.ensures.shape script.own ∙ ap₂ with_rule top_is script_is in
    let brief = c.flag_arg.ensures in
    let two_is = c.in_ok-arg-2.ensures.shape brief.own ∙ ap₂ with_rule one_is brief.rule in
    let final_stores = c.flag_arg-2.ensures in
    let three_is = c.in_ok-arg-3.ensures.shape final_stores.own ∙ ap₂ with_rule two_is final_stores.rule in
    let both = c.flag_arg-3.ensures in
    let four_is = c.in_ok-arg-4.ensures.shape both.own ∙ ap₂ with_rule three_is both.rule in
    let states = c.number_arg-2.ensures in
    let states_is : rule_of c.number_arg-2.result ≡ option_rule (codes "states") (parsers.Unsigned 1 1000000) =
    states.rule ∙ ap (option_rule (codes "states")) c.from_1_to_1000000-2.ensures in
    let five_is = c.in_ok-arg-5.ensures.shape states.own ∙ ap₂ with_rule four_is states_is in
    IfOk-weaker c.arg-6.result _ _ (λ r h. h.shape c.where_arg.ensures.own ∙ ap₂ with_rule five_is c.where_arg.ensures.rule) c.arg-6.ensures

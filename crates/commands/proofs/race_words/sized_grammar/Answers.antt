use Rattle.std.proofs.Common.{◌≡◌, ◌∙◌, ap, ap₂, codes}
use Rattle.std.proofs.lemmas.Result.{IfOk-weaker}
use Rattle.clap.specs.Words.{app_of, new_app, rule_of, with_rule}
use Rattle.clap.specs.Simple.{app_of_fields}
use Rattle.clap.specs.declared.builder.value_parser.ValueParser.TheVariants as parsers
use Rattle.commands.specs.Grammar.{option_rule}
use Rattle.commands.proofs.race_words.sized_grammar.Goals as goal

pub returns : goal.returns
returns c =
    let controllers = c.number_arg.ensures in
    let shards = c.number_arg-2.ensures in
    let rounds = c.number_arg-3.ensures in
    let replicas = c.number_arg-4.ensures in
    let controllers_is : rule_of c.number_arg.result ≡ option_rule (codes "controllers") (parsers.Unsigned 1 64) =
    controllers.rule ∙ ap (option_rule (codes "controllers")) c.from_1_to_64.ensures in
    let shards_is : rule_of c.number_arg-2.result ≡ option_rule (codes "shards") (parsers.Unsigned 1 64) =
    shards.rule ∙ ap (option_rule (codes "shards")) c.from_1_to_64-2.ensures in
    let rounds_is : rule_of c.number_arg-3.result ≡ option_rule (codes "rounds") (parsers.Unsigned 1 1024) =
    rounds.rule ∙ ap (option_rule (codes "rounds")) c.from_1_to_1024.ensures in
    let replicas_is : rule_of c.number_arg-4.result ≡ option_rule (codes "replicas") (parsers.Unsigned 0 64) =
    replicas.rule ∙ ap (option_rule (codes "replicas")) c.from_0_to_64.ensures in
    let top_is : app_of c.after_help.result ≡ new_app (codes "race") = ap app_of_fields c.after_help.ensures ∙ ap app_of_fields c.about.ensures ∙ c.new.ensures.app in
    let one_is = c.in_ok-arg.ensures.shape controllers.own ∙ ap₂ with_rule top_is controllers_is in
    let two_is = c.in_ok-arg-2.ensures.shape shards.own ∙ ap₂ with_rule one_is shards_is in
    let three_is = c.in_ok-arg-3.ensures.shape rounds.own ∙ ap₂ with_rule two_is rounds_is in
    IfOk-weaker c.arg-4.result _ _ (λ r h. h.shape replicas.own ∙ ap₂ with_rule three_is replicas_is) c.arg-4.ensures

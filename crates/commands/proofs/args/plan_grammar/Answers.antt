use Rattle.std.proofs.Common.{◌≡◌, ◌∙◌, ap, ap₂, codes}
use Rattle.std.proofs.lemmas.Result.{IfOk-weaker}
use Rattle.clap.specs.Words.{app_of, new_app, rule_of, with_rule}
use Rattle.clap.specs.Simple.{app_of_fields}
use Rattle.commands.specs.Grammar.{digits_rule, namespace_rule, option_rule, set_rule}
use Rattle.commands.proofs.args.plan_grammar.Goals as goal

pub returns : goal.returns
returns c =
    let set = c.set_arg.ensures in
    let namespace = c.namespace_arg.ensures in
    let digits_is : rule_of c.number_arg.result ≡ digits_rule = c.number_arg.ensures.rule ∙ ap (option_rule (codes "digits")) c.from_1_to_64.ensures in
    let top_is : app_of c.after_help.result ≡ new_app (codes "plan") = ap app_of_fields c.after_help.ensures ∙ ap app_of_fields c.about.ensures ∙ c.new.ensures.app in
    let one_is : app_of c.in_ok-arg.field-0 ≡ with_rule (new_app (codes "plan")) set_rule =
    c.in_ok-arg.ensures.shape set.own ∙ ap₂ with_rule top_is set.rule in
    let two_is : app_of c.in_ok-arg-2.field-0 ≡ with_rule (with_rule (new_app (codes "plan")) set_rule) namespace_rule =
    c.in_ok-arg-2.ensures.shape namespace.own ∙ ap₂ with_rule one_is namespace.rule in
    let three_is : app_of c.in_ok-arg-3.field-0 ≡ with_rule (with_rule (with_rule (new_app (codes "plan")) set_rule) namespace_rule) digits_rule =
    c.in_ok-arg-3.ensures.shape c.number_arg.ensures.own ∙ ap₂ with_rule two_is digits_is in
    let brief = c.flag_arg.ensures in
    let four_is = c.in_ok-arg-4.ensures.shape brief.own ∙ ap₂ with_rule three_is brief.rule in
    IfOk-weaker c.arg-5.result _ _ (λ r h. h.shape c.where_arg.ensures.own ∙ ap₂ with_rule four_is c.where_arg.ensures.rule) c.arg-5.ensures

use Rattle.std.proofs.Common.{◌≡◌, ◌∙◌, ap, ap₂, codes}
use Rattle.std.proofs.lemmas.Result.{IfOk-weaker}
use Rattle.clap.specs.Words.{app_of, new_app, with_rule}
use Rattle.clap.specs.Simple.{app_of_fields}
use Rattle.commands.proofs.args.cluster_grammar.Goals as goal

pub returns : goal.returns
returns c =
    let top_is : app_of c.after_help.result ≡ new_app (codes "cluster") = ap app_of_fields c.after_help.ensures ∙ ap app_of_fields c.about.ensures ∙ c.new.ensures.app in
    let one_is = c.in_ok-arg.ensures.shape c.picture_arg.ensures.own ∙ ap₂ with_rule top_is c.picture_arg.ensures.rule in
    let two_is = c.in_ok-arg-2.ensures.shape c.writes_arg.ensures.own ∙ ap₂ with_rule one_is c.writes_arg.ensures.rule in
    let three_is = c.in_ok-arg-3.ensures.shape c.trace_arg.ensures.own ∙ ap₂ with_rule two_is c.trace_arg.ensures.rule in
    IfOk-weaker c.arg-4.result _ _ (λ r h. h.shape c.where_arg.ensures.own ∙ ap₂ with_rule three_is c.where_arg.ensures.rule) c.arg-4.ensures

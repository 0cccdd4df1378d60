use Rattle.std.proofs.Common.{◌∙◌, ap₂}
use Rattle.std.proofs.lemmas.Result.{IfOk-weaker}
use Rattle.clap.specs.Words.{with_rule}
use Rattle.commands.proofs.race_words.race_grammar.Goals as goal

pub returns : goal.returns
returns c =
    let operator = c.flag_arg.ensures in
    let history = c.flag_arg-2.ensures in
    let one_is = c.in_ok-arg.ensures.shape operator.own ∙ ap₂ with_rule c.in_ok-sized_grammar.ensures operator.rule in
    IfOk-weaker c.arg-2.result _ _ (λ r h. h.shape history.own ∙ ap₂ with_rule one_is history.rule) c.arg-2.ensures

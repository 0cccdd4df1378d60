use Rattle.std.proofs.Common.{codes, [], ap, ◌∙◌}
use Rattle.std.specs.Prelude.{unwrap_or}
use Rattle.clap.specs.Words.{found_of}
use Rattle.clap.proofs.WalkLemmas.{first_value-rows}
use Rattle.commands.proofs.Serving.{now_or}
use Rattle.commands.proofs.args.plan_words.Goals as goal

pub returns-clause-namespace : goal.returns-clause-namespace
returns-clause-namespace c =
    let found = found_of c.args.matches.now in
    ap (λ s. s.now) c.unwrap_or.ensures ∙ now_or c.get_str.result _
    ∙ ap (λ o. unwrap_or o (codes "default")) (c.get_str.ensures ∙ first_value-rows found (codes "namespace"))

pub returns-clause-name : goal.returns-clause-name
returns-clause-name c =
    let found = found_of c.args.matches.now in
    ap (λ s. s.now) c.unwrap_or-2.ensures ∙ now_or c.get_str-2.result _
    ∙ ap (λ o. unwrap_or o []) (c.get_str-2.ensures ∙ first_value-rows found (codes "set"))

use Rattle.std.proofs.Common.{◌≡◌, ◌∙◌, ap, ap₂, rules, codes}
use Rattle.std.specs.Prelude.{pos}
use Rattle.std.proofs.lemmas.Result.{IfOk-weaker}
use Rattle.clap.specs.Words.{app_of, new_app, rule_of, with_rule}
use Rattle.clap.specs.Simple.{app_of_fields}
use Rattle.clap.specs.declared.builder.value_parser.ValueParser.TheVariants as parsers
use Rattle.commands.specs.Grammar.{capacity_rule, option_rule}
use Rattle.commands.proofs.Ranges.{narrowed_to}
use Rattle.commands.proofs.args.serve_grammar.Goals as goal

pub returns : goal.returns
returns c =
    let helped = c.help-capacity.ensures in
    let parsed = c.value_parser-2.ensures in
    let valued = c.value_name.ensures in
    let long = c.long.ensures in
    let new = c.new.ensures in
    let parser_is : c.range.result ≡ parsers.Unsigned 1 1048576 =
    narrowed_to _ _ _ _ (pos 1) (pos 1048576) c.value_parser.ensures c.new-2.ensures.start c.new-2.ensures.end c.range.ensures in
    let rule_is : rule_of c.help-capacity.result ≡ option_rule (codes "capacity") c.range.result = search (rules, helped, parsed, valued, long, new) in
    let capacity_is : rule_of c.help-capacity.result ≡ capacity_rule = rule_is ∙ ap (option_rule (codes "capacity")) parser_is in
    let top_is : app_of c.after_help.result ≡ new_app (codes "serve") = ap app_of_fields c.after_help.ensures ∙ ap app_of_fields c.about.ensures ∙ c.new-3.ensures.app in
    IfOk-weaker c.arg.result _ _ (λ r h. h.shape (search (rules, helped, parsed, valued, long, new)) ∙ ap₂ with_rule top_is capacity_is) c.arg.ensures

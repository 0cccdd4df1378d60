use Rattle.std.proofs.Common.{◌++◌, ap, ◌∙◌}
use Rattle.json.specs.Print.{print}
use Rattle.json.specs.Tree.{json_tokens}
use Rattle.serde_json.specs.Written.{outline}
use Rattle.serde_json.proofs.Texts.{print-outline}
use Rattle.trees.specs.Tree.{data_of}
use Rattle.trees.proofs.write.tree_text.Goals as goal

pub returns : goal.returns
returns c =
    let written = c.in_ok-write_tree.ensures.tokens ∙ ap (λ ts. ts ++ json_tokens (outline (data_of c.args.tree.now))) c.new-writer.ensures.tokens in
    let none = c.write_tree.ensures.before ∙ c.new-writer.ensures.before ∙ c.in_ok-with_capacity.ensures.items in
    c.into_inner.ensures.items ∙ ap (λ b. b ++ print c.write_tree.new.out.tokens) none ∙ ap print written ∙ print-outline (data_of c.args.tree.now)

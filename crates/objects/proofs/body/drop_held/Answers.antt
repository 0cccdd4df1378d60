use Rattle.std.proofs.Common.{not, ap, ◌∙◌, rules}
use Rattle.std.proofs.lemmas.List.Elements.{filter_from_retain}
use Rattle.trees.specs.Tree.{members_of}
use Rattle.objects.specs.Object.{is_held}
use Rattle.objects.proofs.Bodies.{members_of-filter}
use Rattle.objects.proofs.body.drop_held.Goals as goal

pub returns : goal.returns
returns c = ap members_of (filter_from_retain _ (λ e. not (is_held e.0)) (λ p x b q k. search rules) _ c.args.entries.now.items _ c.retain.ensures.filtered) ∙ members_of-filter c.args.entries.now.items

use Rattle.std.proofs.Common.{Some, codes, sym, ap, ◌∙◌}
use Rattle.trees.specs.Tree.{data_of}
use Rattle.trees.specs.declared.tree.Tree.{Tree}
use Rattle.objects.specs.Status.{member_of}
use Rattle.objects.proofs.SplicedTexts.{found_equal}
use Rattle.objects.proofs.object.Object.sharing_spec.Goals as goal

pub with_same_spec-requires : goal.with_same_spec-requires
with_same_spec-requires c =
    sym (found_equal (member_of (codes "spec") c.args.current.now.body) (member_of (codes "spec") c.args.self.body) c.requires)
    ∙ sym c.in-Some.ensures
    ∙ ap (λ (t : Tree). Some (data_of t)) (sym c.in-Ok.ensures.cases)

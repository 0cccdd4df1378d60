use Rattle.std.proofs.Common.{subst, sym}
use Rattle.std.specs.Prelude.{option_map}
use Rattle.trees.specs.Tree.{data_of}
use Rattle.objects.specs.Object.{IsBody}
use Rattle.objects.proofs.Bodies.{body_with_member}
use Rattle.objects.proofs.object.Object.with_member.Goals as goal

pub invariant_of-result : goal.invariant_of-result
invariant_of-result c =
    subst (IsBody c.self.inside.key.kind) (sym c.in_ok-with_member.ensures)
    (body_with_member c.args.name.now c.self.inside.key.kind (option_map data_of c.args.value) (data_of c.self.inside.body) c.requires c.self.invariant)

use Rattle.std.proofs.Common.{subst, sym}
use Rattle.std.specs.Prelude.{option_map}
use Rattle.trees.specs.Tree.{data_of}
use Rattle.objects.specs.Object.{IsBody}
use Rattle.objects.proofs.Bodies.{body_with_status}
use Rattle.objects.proofs.object.Object.with_status.Goals as goal

pub invariant_of-result : goal.invariant_of-result
invariant_of-result c =
    subst (IsBody c.self.inside.key.kind) (sym c.in_ok-with_member.ensures)
    (body_with_status c.self.inside.key.kind (option_map data_of c.args.status) (data_of c.self.inside.body) c.self.invariant)

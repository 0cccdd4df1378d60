use Rattle.std.proofs.Common.{subst, sym}
use Rattle.objects.specs.Object.{IsBody}
use Rattle.objects.proofs.object.Object.with_same_spec.Goals as goal

pub invariant_of-result : goal.invariant_of-result
invariant_of-result c = subst (IsBody c.self.inside.key.kind) (sym c.in_ok-with_same.ensures) c.self.invariant

use Rattle.std.proofs.Common.{◌≡◌, drop}
use Rattle.objects.specs.Tree.{items_of}
use Rattle.reasons.specs.Gone.{any_among, is_gone}
use Rattle.reasons.proofs.gone.any_among.Given as goal

abbrev pub invariant-loop-owner : goal.invariant-loop-owner
invariant-loop-owner l = any_among (is_gone l.gone) (items_of l.owners) ≡ any_among (is_gone l.gone) (items_of (drop l.owner-index l.owners))

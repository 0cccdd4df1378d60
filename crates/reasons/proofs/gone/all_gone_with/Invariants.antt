use Rattle.std.proofs.Common.{◌≡◌, drop}
use Rattle.objects.specs.Tree.{items_of}
use Rattle.reasons.specs.Gone.{all_gone_with, is_gone}
use Rattle.reasons.proofs.gone.all_gone_with.Given as goal

abbrev pub invariant-loop-owner : goal.invariant-loop-owner
invariant-loop-owner l = all_gone_with (is_gone l.gone) (items_of l.owners) ≡ all_gone_with (is_gone l.gone) (items_of (drop l.owner-index l.owners))

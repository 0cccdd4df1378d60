use Rattle.std.proofs.Common.{length}
use Rattle.plan_lines.specs.Objects.{lists_of}
use Rattle.plan_lines.proofs.Listings.{HoldBefore}
use Rattle.plan_lines.proofs.listed.read_objects.Given as goal

abbrev pub invariant-lines : goal.invariant-lines
invariant-lines l = HoldBefore (lists_of l.listed) l.text l.rest

abbrev pub decreases-lines : goal.decreases-lines
decreases-lines l = length l.rest

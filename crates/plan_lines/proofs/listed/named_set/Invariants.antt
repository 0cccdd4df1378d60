use Rattle.std.proofs.Common.{◌≡◌, drop}
use Rattle.std.specs.Prelude.{find}
use Rattle.plan_lines.specs.Objects.{is_named}
use Rattle.plan_lines.proofs.listed.named_set.Given as goal

-- the rest has the set that is searched
abbrev pub invariant-loop-set : goal.invariant-loop-set
invariant-loop-set l = find (is_named l.namespace l.name) (drop l.set-index l.sets) ≡ find (is_named l.namespace l.name) l.sets

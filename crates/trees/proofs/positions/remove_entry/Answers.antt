use Rattle.std.proofs.Common.{subst, arith}
use Rattle.trees.specs.Positions.{IsAt, IsGap}
use Rattle.trees.proofs.EntryPositions.{at_inside}
use Rattle.trees.proofs.SetMembers.{removed_at, gap_without}
use Rattle.trees.proofs.positions.remove_entry.Goals as goal

pub remove-requires : goal.remove-requires
remove-requires c = omega (arith, at_inside _ _ _ c.in-Ok.ensures.found, c.deref.ensures.len)

pub returns-in-Ok : goal.returns-in-Ok
returns-in-Ok c =
    removed_at c.args.key.now c.in-Ok.at c.args.entries.now.items c.remove.new.self.items
    (subst (λ es. IsAt c.args.key.now c.in-Ok.at es) c.deref.ensures.value c.in-Ok.ensures.found) c.requires c.remove.ensures.items

pub returns-in_default : goal.returns-in_default
returns-in_default c =
    gap_without c.args.key.now c.in_default.field-0 c.args.entries.now.items
    (subst (λ es. IsGap c.args.key.now c.in_default.field-0 es) c.deref.ensures.value (c.in_default.ensures.gap)) c.requires

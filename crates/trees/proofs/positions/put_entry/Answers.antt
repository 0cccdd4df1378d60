use Rattle.std.proofs.Common.{refl, subst, arith}
use Rattle.trees.specs.Positions.{IsAt, IsGap}
use Rattle.trees.proofs.EntryPositions.{at_inside}
use Rattle.trees.proofs.SetMembers.{replaced_at, inserted_at, gap_inside}
use Rattle.trees.proofs.positions.put_entry.Goals as goal

pub index_mut-requires : goal.index_mut-requires
index_mut-requires c = omega (arith, at_inside _ _ _ c.in-Ok.ensures.found, c.deref.ensures.len)

pub insert-requires : goal.insert-requires
insert-requires c = omega (arith, gap_inside _ _ _ c.in-Err.ensures.gap, c.deref.ensures.len)

pub returns-in-Ok-clause-ok : goal.returns-in-Ok-clause-ok
returns-in-Ok-clause-ok c =
    replaced_at c.args.key c.in-Ok.at c.args.entries.now.items c.index_mut.result.now c.args.value
    (subst (λ es. IsAt c.args.key c.in-Ok.at es) c.deref.ensures.value (subst (λ k. IsAt k c.in-Ok.at c.deref.result.now) c.as_str.ensures c.in-Ok.ensures.found)) c.index_mut.ensures.value

pub returns-in_ok-insert-in-Err-clause-ok : goal.returns-in_ok-insert-in-Err-clause-ok
returns-in_ok-insert-in-Err-clause-ok c =
    inserted_at c.args.key c.args.key c.in-Err.at c.args.entries.now.items c.insert.new.self.items c.args.value
    (subst (λ es. IsGap c.args.key c.in-Err.at es) c.deref.ensures.value (subst (λ k. IsGap k c.in-Err.at c.deref.result.now) c.as_str.ensures c.in-Err.ensures.gap)) refl c.in_ok-insert-in-Err.ensures.items

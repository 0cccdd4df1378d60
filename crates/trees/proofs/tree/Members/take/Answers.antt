use Rattle.std.proofs.Common.{sym, ap, ◌∙◌, subst, arith}
use Rattle.serde_json.specs.Find.{get_member}
use Rattle.trees.specs.Positions.{IsAt, IsGap}
use Rattle.trees.proofs.EntryPositions.{at_inside, at_found, gap_none}
use Rattle.trees.proofs.tree.Members.take.Goals as goal

pub swap_remove-value-requires : goal.swap_remove-value-requires
swap_remove-value-requires c = omega (arith, at_inside _ _ _ c.in-Ok.ensures.found, c.deref.ensures.len)

pub returns-in-Ok : goal.returns-in-Ok
returns-in-Ok c =
    sym (at_found _ _ _ c.swap_remove-value.result (subst (λ es. IsAt c.args.key.now c.in-Ok.at es) c.deref.ensures.value c.in-Ok.ensures.found) c.swap_remove-value.ensures.value)
    ∙ ap (get_member c.args.key.now) c.in_ok-entries.ensures.all

pub returns : goal.returns
returns c =
    sym (gap_none _ _ _ (subst (λ es. IsGap c.args.key.now c.in-Err.field-0 es) c.deref.ensures.value c.in-Err.ensures.gap) c.in_ok-entries.ensures.ascending)
    ∙ ap (get_member c.args.key.now) c.in_ok-entries.ensures.all

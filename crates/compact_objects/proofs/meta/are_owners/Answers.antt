use Rattle.std.proofs.Common.{[], ◌∷◌}
use Rattle.compact_objects.proofs.OwnerTexts.{owners_begin, owners_end, owners_passed}
use Rattle.compact_objects.proofs.Texts.{begins}
use Rattle.compact_objects.proofs.meta.are_owners.Goals as goal

pub owners-init : goal.owners-init
owners-init c d is = owners_begin d c.args.text.now c.in-Some.left.now is (begins c.args.text.now (91 ∷ []) _ c.in-Some.ensures.cases.0 c.in-Some.ensures.cases.1)

pub returns-then-byte-eq93 : goal.returns-then-byte-eq93
returns-then-byte-eq93 c d is holds =
    owners_end d _ _ _ _ _ (c.owners.invariant d is) c.in-Some-owner_rest.ensures.brace.1 c.in-Some-owner_rest.ensures.owner c.in-Some-split_first.ensures.cases.0 c.if-byte-eq93.true

pub owners-preserved : goal.owners-preserved
owners-preserved c d is =
    owners_passed d _ _ _ _ _ (c.owners.invariant d is) c.in-Some-owner_rest.ensures.brace.1 c.in-Some-owner_rest.ensures.owner c.in-Some-split_first.ensures.cases.0 c.if-byte-ne44.false

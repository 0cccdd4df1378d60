use Rattle.std.proofs.Common.{[], ◌∷◌, codes, arith}
use Rattle.compact_objects.proofs.OwnerTexts.{owner_begins, owner_ends, owner_passed}
use Rattle.compact_objects.proofs.Texts.{begins}
use Rattle.compact_objects.proofs.meta.owner_rest.Goals as goal

pub returns-in-Some-clause-owner : goal.returns-in-Some-clause-owner
returns-in-Some-clause-owner c d rest is ends =
    owner_ends d rest _ c.in-Some.value.now c.in_ok-behind.behind.now c.in_ok-rest.rest.now _ (c.members.invariant.left d rest is ends) (begins _ (codes "\"uid\":") _ c.in-Some.ensures.cases.0 c.in-Some.ensures.cases.1)
    c.in_ok-behind.ensures.quote.1 c.in_ok-behind.ensures.rest (begins _ (125 ∷ []) _ c.in_ok-rest.ensures.cases.0 c.in_ok-rest.ensures.cases.1)

pub members-init : goal.members-init
members-init c =
    let at = begins c.args.text.now (123 ∷ []) c.in_ok-left.left.now c.in_ok-left.ensures.cases.0 c.in_ok-left.ensures.cases.1 in
    record { left = λ d rest is ends. owner_begins d c.args.text.now rest c.in_ok-left.left.now ends is at; brace = (c.in_ok-left.left.now, at); shorter = omega (arith, c.in_ok-left.ensures.cases.2) }

pub members-preserved : goal.members-preserved
members-preserved c = record {
  left = λ d rest is ends. owner_passed d rest _ _ _ _ (c.members.invariant.left d rest is ends) c.in_default.ensures.cases c.in_ok-behind-2.ensures.quote.1 c.in_ok-behind-2.ensures.rest
      (begins _ (44 ∷ []) _ c.in_ok-left-2.ensures.cases.0 c.in_ok-left-2.ensures.cases.1);
  brace = c.members.invariant.brace;
  shorter = omega (arith, c.members.invariant.shorter, c.in_ok-behind-2.ensures.shorter, c.in_ok-left-2.ensures.cases.2);
}

use Rattle.std.proofs.Common.{◌∙◌, sym, subst}
use Rattle.std.proofs.lemmas.List.{drop_all, drop_more}
use Rattle.order_check.specs.Following.{Follows, IsRest, standing}
use Rattle.order_check.proofs.Followed.{may_take, no_entries, none_due, rest_after}
use Rattle.order_check.proofs.walk.Walk.follow.Goals as goal

pub loop-place-preserved : goal.loop-place-preserved
loop-place-preserved c =
    let items = c.args.items.now in
    let here = standing c.loop-place.self in
    let more = drop_more c.args.order.now c.loop-place.place-index 0 c.loop-place-test.true in
    let taken = c.in_ok-take.ensures.takes c.if-not-branch.false in
    record {
      follows = λ f. c.loop-place.invariant.follows (subst (λ ps. Follows items here ps) (sym more) (standing c.take.new.self, (taken, f)));
      rest = λ requests h.
          let left = c.loop-place.invariant.rest requests h in
          rest_after items here _ _ _ left.0 (subst (λ ps. IsRest items here ps left.0) more left.1) taken;
    }

pub returns-then-not-branch-clause-complete : goal.returns-then-not-branch-clause-complete
returns-then-not-branch-clause-complete c = λ requests h.
    let here = standing c.loop-place.self in
    let more = drop_more c.args.order.now c.loop-place.place-index 0 c.loop-place-test.true in
    let left = c.loop-place.invariant.rest requests h in
    sym c.if-not-branch.true ∙ c.in_ok-take.ensures.complete (may_take c.args.items.now here _ _ left.0 (subst (λ ps. IsRest c.args.items.now here ps left.0) more left.1))

pub returns-clause-complete : goal.returns-clause-complete
returns-clause-complete c = λ requests h.
    let here = standing c.loop-place.self in
    let none = drop_all c.loop-place.place-index c.args.order.now c.loop-place-test.false in
    let left = c.loop-place.invariant.rest requests h in
    c.is_empty.ensures.1 (no_entries c.loop-place.self.answers (none_due c.args.items.now here left.0 (subst (λ ps. IsRest c.args.items.now here ps left.0) none left.1)))

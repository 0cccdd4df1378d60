use Rattle.std.proofs.Common.{◌≡◌, ◌∙◌, [], refl, sym, ap, ap₂, subst}
use Rattle.interleavings.specs.Linearization.{IsLegal}
use Rattle.race_log.specs.Judged.{calls_of, noted_of}
use Rattle.race_log.specs.Twice.{repeats, replies_in_order}
use Rattle.race_log.proofs.Judging.{legal_once_merely}
use Rattle.race_log.proofs.judge.judged.Goals as goal

pub returns-clause-history : goal.returns-clause-history
returns-clause-history c =
    let order_is : c.in_ok-order.order.items ≡ calls_of c.in_ok-stamped.stamped.items = c.in_ok-order.ensures ∙ ap calls_of c.as_slice-3.ensures.value in
    let calls_is : c.as_slice-4.result.now ≡ calls_of c.in_ok-stamped.stamped.items = c.as_slice-4.ensures.value ∙ order_is in
    record {
      judged = record {
        controllers = refl;
        rounds = refl;
        shards = refl;
        order = c.in_ok-stamped.stamped.items;
        ordered = c.in_ok-stamped.ensures;
        history = c.in_ok-legal.ensures.history;
        legal = λ yes. subst (IsLegal c.args.capacity c.args.log.items.items) calls_is (c.in_ok-legal.ensures.legal yes);
        complete = λ least most history legal.
            c.in_ok-legal.ensures.complete least most history (subst (IsLegal c.args.capacity c.args.log.items.items) (sym calls_is) legal);
        twice = c.in_ok-twice.ensures ∙ ap₂ (λ items order. repeats (replies_in_order items order [])) c.as_slice.ensures.value c.as_slice-2.ensures.value;
      };
      noted = refl;
      room = refl;
      order = order_is;
    }

pub returns-clause-once : goal.returns-clause-once
returns-clause-once c = λ yes.
    let calls_is : c.as_slice-4.result.now ≡ calls_of c.in_ok-stamped.stamped.items =
    c.as_slice-4.ensures.value ∙ c.in_ok-order.ensures ∙ ap calls_of c.as_slice-3.ensures.value in
    c.in_ok-twice.ensures ∙ ap₂ (λ items order. repeats (replies_in_order items order [])) c.as_slice.ensures.value c.as_slice-2.ensures.value
    ∙ legal_once_merely c.args.capacity (noted_of c.args.log) c.in_ok-stamped.stamped.items c.args.log.noted c.in_ok-stamped.ensures
    (subst (IsLegal c.args.capacity c.args.log.items.items) calls_is (c.in_ok-legal.ensures.legal yes))

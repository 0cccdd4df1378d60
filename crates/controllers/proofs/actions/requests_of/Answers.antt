use Rattle.std.proofs.Common.{◌≡◌, [], ◌++◌, rules, append_assoc, append-nil, sym, ap, ◌∙◌}
use Rattle.std.proofs.lemmas.List.{nil_from_length}
use Rattle.std.specs.Vec.Iter.{into_iter_deque, into_iter_items}
use Rattle.controllers.specs.Planned.{requests_of}
use Rattle.controllers.proofs.actions.requests_of.Goals as goal

pub loop-action-init : goal.loop-action-init
loop-action-init c =
    let same : into_iter_items c.into_iter-action-iterator.result ≡ c.args.actions.items = search rules in
    record {
      can = tt;
      finite = tt;
      whole = ap (λ l. l ++ requests_of c.args.namespace.now c.args.moment.now (into_iter_items c.into_iter-action-iterator.result)) c.new-requests.ensures.items
          ∙ ap (λ l. requests_of c.args.namespace.now c.args.moment.now l) same;
    }

pub loop-action-preserved : goal.loop-action-preserved
loop-action-preserved c = record {
  can = tt;
  finite = tt;
  whole =
      ap (λ l. l ++ requests_of c.args.namespace.now c.args.moment.now (into_iter_items c.next.new.self)) c.in_ok-put_request.ensures
      ∙ append_assoc _ _ (requests_of c.args.namespace.now c.args.moment.now (into_iter_items c.next.new.self))
      ∙ ap (λ l. c.loop-action.requests.items ++ requests_of c.args.namespace.now c.args.moment.now l) (sym c.in-Some.ensures.steps.0)
      ∙ c.loop-action.invariant.whole;
}

pub returns : goal.returns
returns c =
    let left = into_iter_deque c.loop-action.action-iterator in
    let none : into_iter_items c.loop-action.action-iterator ≡ [] = nil_from_length (into_iter_items c.loop-action.action-iterator) (sym left.ok.0 ∙ c.in-None.ensures.steps.0) in
    sym (append-nil c.loop-action.requests.items)
    ∙ ap (λ l. c.loop-action.requests.items ++ requests_of c.args.namespace.now c.args.moment.now l) (sym none)
    ∙ c.loop-action.invariant.whole

use Rattle.std.proofs.Common.{◌≡◌, [], ◌∷◌, ◌++◌, rules, take, sym, ap, ◌∙◌}
use Rattle.std.proofs.lemmas.List.{nil_from_length}
use Rattle.std.specs.Vec.Iter.{into_iter_deque, into_iter_items}
use Rattle.sets.specs.Actions.{claim_actions}
use Rattle.sets.proofs.Truncation.{adds_none, coming_more}
use Rattle.sets.proofs.steps.add_changes.Goals as goal

pub loop-change-init : goal.loop-change-init
loop-change-init c =
    let same : into_iter_items c.into_iter-change-iterator.result ≡ c.args.changes.items = search rules in
    record {
      can = tt;
      finite = tt;
      all_added = ap (λ l. take 1024 (c.args.actions.now.list.items ++ claim_actions l)) same;
    }

pub loop-change-preserved : goal.loop-change-preserved
loop-change-preserved c = record {
  can = tt;
  finite = tt;
  all_added =
      coming_more c.loop-change.actions.list.items c.add.new.self.list.items (c.claim_action.result ∷ []) (claim_actions (into_iter_items c.next.new.self)) c.in_ok-add.ensures
      ∙ (ap (λ a. take 1024 (c.loop-change.actions.list.items ++ (a ∷ claim_actions (into_iter_items c.next.new.self)))) c.claim_action.ensures
      ∙ (ap (λ l. take 1024 (c.loop-change.actions.list.items ++ claim_actions l)) (sym c.in-Some.ensures.steps.0) ∙ c.loop-change.invariant.all_added));
}

pub returns : goal.returns
returns c =
    let left = into_iter_deque c.loop-change.change-iterator in
    let none : into_iter_items c.loop-change.change-iterator ≡ [] = nil_from_length (into_iter_items c.loop-change.change-iterator) (sym left.ok.0 ∙ c.in-None.ensures.steps.0) in
    adds_none c.loop-change.actions.list.items c.loop-change.actions.within
    ∙ (ap (λ l. take 1024 (c.loop-change.actions.list.items ++ claim_actions l)) (sym none) ∙ c.loop-change.invariant.all_added)

use Rattle.std.proofs.Common.{◌≡◌, ◌≤◌, ◌<◌, List, [], ◌++◌, ℕ, length, get_or, drop, sym, ap, ◌∙◌, subst}
use Rattle.std.proofs.lemmas.List.{drop_all}
use Rattle.interleavings.specs.declared.trace.Item.{Item}
use Rattle.plan_lines.proofs.Put.{rest-part, rest-put}
use Rattle.scripts.proofs.RaceHistories.{history_end, line-part, line-put, ok_where_some}
use Rattle.scripts.proofs.race_history.write_history.Goals as goal

pub returns-in_err-lines-clause-part : goal.returns-in_err-lines-clause-part
returns-in_err-lines-clause-part g c =
    let same = c.as_slice-item-items.ensures.value in
    line-part _ _ _ _ c.loop-item.lines.items c.args.spec.now c.args.trace.now.items.items c.args.order.now c.loop-item.item-index c.item-item.result
    (subst (λ (items : List Item). c.loop-item.item-index < length items) same c.loop-item-test.true)
    (subst (λ (items : List Item). c.item-item.result ≡ get_or items c.loop-item.item-index c.item-item.result) same c.item-item.is) c.loop-item.invariant.put
    c.in_err-lines.ensures.part

pub loop-item-preserved : goal.loop-item-preserved
loop-item-preserved g c =
    let same = c.as_slice-item-items.ensures.value in record {
      put =
          line-put _ _ _ _ c.loop-item.lines.items _ c.args.spec.now c.args.trace.now.items.items c.args.order.now c.loop-item.item-index c.item-item.result
          (subst (λ (items : List Item). c.loop-item.item-index < length items) same c.loop-item-test.true)
          (subst (λ (items : List Item). c.item-item.result ≡ get_or items c.loop-item.item-index c.item-item.result) same c.item-item.is) c.loop-item.invariant.put
          c.in_ok-lines.ensures.put;
      writes = c.in_ok-lines.ensures.writes ∙ c.loop-item.invariant.writes;
      few = c.in_ok-lines.ensures.few;
    }

pub returns-clause-part : goal.returns-clause-part
returns-clause-part g c =
    let items = c.args.trace.now.items.items in
    let none : drop c.loop-item.item-index items ≡ [] =
    drop_all c.loop-item.item-index items
    (subst (λ (items : List Item). length items ≤ c.loop-item.item-index) c.as_slice-item-items.ensures.value c.loop-item-test.false) in
    let end = ap (λ (h : List ℕ). c.loop-item.lines.items ++ h) (history_end c.args.spec.now (drop c.loop-item.item-index items) c.args.order.now none) in
    rest-part _ _ _ _ _ _ c.loop-item.invariant.put (end ∙ (sym c.in_ok-rest.ensures ∙ sym c.as_slice.ensures.value)) c.write_all.ensures.part

pub returns-clause-all : goal.returns-clause-all
returns-clause-all g c =
    let items = c.args.trace.now.items.items in
    let none : drop c.loop-item.item-index items ≡ [] =
    drop_all c.loop-item.item-index items
    (subst (λ (items : List Item). length items ≤ c.loop-item.item-index) c.as_slice-item-items.ensures.value c.loop-item-test.false) in
    let end = ap (λ (h : List ℕ). c.loop-item.lines.items ++ h) (history_end c.args.spec.now (drop c.loop-item.item-index items) c.args.order.now none) in
    ok_where_some c.write_all.result c.ok_or.result _ _ c.ok_or.ensures.ok_part c.write_all.ensures.put
    (λ put. rest-put _ _ _ _ _ _ c.loop-item.invariant.put (end ∙ (sym c.in_ok-rest.ensures ∙ sym c.as_slice.ensures.value)) put)

use Rattle.std.proofs.Common.{◌≡◌, ◌∷◌, rules, sym, subst, IfOk}
use Rattle.std.specs.List.{All}
use Rattle.std.specs.Vec.Iter.{into_iter_items}
use Rattle.std.proofs.lemmas.List.Elements.{All-head, All-tail}
use Rattle.racing.specs.Children.{Promises, promised_number}
use Rattle.racing.specs.Jobs.{IsPartAt}
use Rattle.racing.specs.Parts.{IsPartOf, caller_of}
use Rattle.racing.proofs.Rows.{all_more, moved_on}
use Rattle.racing.proofs.threads.join_all.Goals as goal

-- a part more, and a thread less
pub loop-child-preserved : goal.loop-child-preserved
loop-child-preserved g c =
    let shards = g.S.SharedStore.shards in
    let capacity = g.S.SharedStore.capacity in
    let spec = c.args.spec.now in
    let was = c.loop-child.invariant in
    let child = c.in-Some.child in
    let rest = into_iter_items c.next.new.self in
    let part = c.in_ok-part.part in
    let parts = c.loop-child.parts.items in
    let steps : into_iter_items c.loop-child.child-iterator ≡ child ∷ rest = search rules in
    let items = c.in_ok-push.ensures.items in
    let promised : All (Promises spec) (child ∷ rest) = subst (All (Promises spec)) steps was.spec in
    let is : IsPartAt shards capacity child.promise.spec child.promise.number part =
    subst (λ r. IfOk r (IsPartAt shards capacity child.promise.spec child.promise.number)) c.in_ok-part.was c.join.ensures in
    let fits : IsPartOf shards capacity spec part = subst (λ s. IsPartOf shards capacity s part) (All-head (Promises spec) child rest promised) is.asked in
    record {
      spec = All-tail (Promises spec) child rest promised;
      numbers = moved_on caller_of promised_number _ _ _ _ _ _ _ items steps is.caller was.numbers;
      each = λ all. subst (All (IsPartOf shards capacity spec)) (sym items) (all_more (IsPartOf shards capacity spec) parts part (was.each all) fits);
    }

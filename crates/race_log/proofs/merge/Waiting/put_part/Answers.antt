use Rattle.std.proofs.Common.{◌++◌, sym, ◌∙◌, subst}
use Rattle.std.specs.List.{flat_map}
use Rattle.std.proofs.lemmas.List.{append-nil, flat_map_more, map-id}
use Rattle.std.proofs.lemmas.Iterator.Adapters.{YieldsList-from_vec}
use Rattle.std.proofs.lemmas.Iterator.Consumers.{YieldsList-end}
use Rattle.race_log.specs.Merge.{exchange_events}
use Rattle.race_log.specs.Waiting.{Holds}
use Rattle.race_log.proofs.merge.Waiting.put_part.Goals as goal

pub loop-one-init : goal.loop-one-init
loop-one-init c = λ es holds. subst (Holds c.args.self.now) (sym (append-nil es)) holds

pub loop-one-preserved : goal.loop-one-preserved
loop-one-preserved c = λ es holds.
    subst (Holds c.put_exchange.new.self) (flat_map_more (exchange_events c.args.part.caller) es c.loop-one.yielded c.in-Some.one)
    (c.in_ok-put_exchange.ensures (es ++ flat_map (exchange_events c.args.part.caller) c.loop-one.yielded) (c.loop-one.invariant es holds))

pub returns : goal.returns
returns c = λ es holds.
    let gives = c.into_iter-one-iterator.ensures.into_iter_gives in
    let all = YieldsList-end (YieldsList-from_vec {s = c.into_iter-one-iterator.result} c.args.part.exchanges.items gives.0 (gives.1 ∙ c.args.part.exchanges.ok.0)) c.loop-one.yielded c.loop-one.one-iterator c.loop-one.yielded_by c.next.result c.next.new.self c.in-None.is c.next.ensures.steps in
    subst (λ xs. Holds c.loop-one.self (es ++ flat_map (exchange_events c.args.part.caller) xs)) (sym (map-id c.loop-one.yielded) ∙ all.0) (c.loop-one.invariant es holds)

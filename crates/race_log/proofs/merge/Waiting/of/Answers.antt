use Rattle.std.proofs.Common.{[], sym, ◌∙◌, subst}
use Rattle.std.specs.List.{flat_map}
use Rattle.std.proofs.lemmas.List.{flat_map_more, map-id}
use Rattle.std.proofs.lemmas.Iterator.Adapters.{YieldsList-from_vec}
use Rattle.std.proofs.lemmas.Iterator.Consumers.{YieldsList-end}
use Rattle.race_log.specs.Merge.{part_events}
use Rattle.race_log.specs.Waiting.{Holds}
use Rattle.race_log.proofs.merge.Waiting.of.Goals as goal

pub loop-part-preserved : goal.loop-part-preserved
loop-part-preserved c =
    subst (Holds c.put_part.new.self) (flat_map_more part_events [] c.loop-part.yielded c.in-Some.part)
    (c.in_ok-put_part.ensures (flat_map part_events c.loop-part.yielded) c.loop-part.invariant)

pub returns : goal.returns
returns c =
    let gives = c.into_iter-part-iterator.ensures.into_iter_gives in
    let all = YieldsList-end (YieldsList-from_vec {s = c.into_iter-part-iterator.result} c.args.parts.items gives.0 (gives.1 ∙ c.args.parts.ok.0)) c.loop-part.yielded c.loop-part.part-iterator c.loop-part.yielded_by c.next.result c.next.new.self c.in-None.is c.next.ensures.steps in
    subst (λ xs. Holds c.loop-part.waiting (flat_map part_events xs)) (sym (map-id c.loop-part.yielded) ∙ all.0) c.loop-part.invariant

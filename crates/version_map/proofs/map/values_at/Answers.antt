use Rattle.std.proofs.Common.{sym, ap, ◌∙◌}
use Rattle.std.proofs.lemmas.List.{map-id}
use Rattle.std.proofs.lemmas.Iterator.Adapters.{YieldsList-from_vec}
use Rattle.std.proofs.lemmas.Iterator.Consumers.{YieldsList-end}
use Rattle.version_map.specs.Consistent.{values_in}
use Rattle.version_map.proofs.map.values_at.Goals as goal

pub returns : goal.returns
returns g c =
    let gives = c.into_iter-slot-iterator.ensures.into_iter_gives in
    let all = YieldsList-end (YieldsList-from_vec {s = c.into_iter-slot-iterator.result} c.args.slots.items gives.0 (gives.1 ∙ c.args.slots.ok.0)) c.loop-slot.yielded c.loop-slot.slot-iterator c.loop-slot.yielded_by c.next.result c.next.new.self c.in-None.is c.next.ensures.steps in
    c.loop-slot.invariant ∙ ap (values_in c.args.number c.args.chains.now) (sym (map-id c.loop-slot.yielded) ∙ all.0)

use Rattle.std.proofs.Common.{sym, ap, map, ◌∙◌}
use Rattle.std.proofs.lemmas.List.{map-id}
use Rattle.std.proofs.lemmas.Iterator.Adapters.{YieldsList-from_vec}
use Rattle.std.proofs.lemmas.Iterator.Consumers.{YieldsList-end}
use Rattle.version_map.specs.Keyed.{collection}
use Rattle.versions.specs.Records.{state_at}
use Rattle.versions.proofs.Held.{state_is}
use Rattle.versions.proofs.shard.Shard.list_at.Goals as goal

pub returns : goal.returns
returns c =
    let gives = c.into_iter-object-iterator.ensures.into_iter_gives in
    let all = YieldsList-end (YieldsList-from_vec {s = c.into_iter-object-iterator.result} c.in_ok-listed.listed.items gives.0 (gives.1 ∙ c.in_ok-listed.listed.ok.0)) c.loop-object.yielded c.loop-object.object-iterator
    c.loop-object.yielded_by c.next.result c.next.new.self c.in-None.is c.next.ensures.steps in
    c.loop-object.invariant ∙ ap (map (λ o. o.now)) (sym (map-id c.loop-object.yielded) ∙ all.0) ∙ c.in_ok-listed.ensures
    ∙ ap (λ m. collection m c.args.kind c.args.namespace.now) (sym (state_is c.self.inside.versions.rows _ c.args.number c.self.invariant.0))
    ∙ ap (λ s. collection (state_at s.records c.args.number) c.args.kind c.args.namespace.now) c.self.view_is

use Rattle.std.proofs.Common.{◌∙◌, length, Some, ap, sym}
use Rattle.std.proofs.lemmas.Iterator.Adapters.{YieldsList-from_vec}
use Rattle.std.proofs.lemmas.Iterator.Consumers.{YieldsList-turn}
use Rattle.line.specs.Seat.{Seat}
use Rattle.store.specs.declared.writing.Writing.{Writing}
use Rattle.store.proofs.Going.{at_or}
use Rattle.store.proofs.store.locked_shards.Goals as goal

pub new-requires : goal.new-requires
new-requires g c =
    let gives = c.into_iter-seat-iterator.ensures.into_iter_gives in
    let t = YieldsList-turn (YieldsList-from_vec {s = c.into_iter-seat-iterator.result} c.args.seats.items gives.0 (gives.1 ∙ c.args.seats.ok.0)) c.loop-seat.yielded c.loop-seat.seat-iterator c.loop-seat.yielded_by c.next.result c.next.new.self c.in-Some.seat c.in-Some.is c.next.ensures.steps in
    let is = c.requires (length c.loop-seat.yielded) c.in-Some.seat (at_or c.args.seats.items (length c.loop-seat.yielded) c.in-Some.seat t.0 t.1) in (
      ap (λ (s : Seat Writing). s.line) is,
      ap (λ (s : Seat Writing). s.view.shard) is ∙ ap Some (sym (c.len-index.ensures ∙ c.loop-seat.invariant)),
      ap (λ (s : Seat Writing). s.view.caller) is,
      ap (λ (s : Seat Writing). s.view.plain.pending) is,
      ap (λ (s : Seat Writing). s.view.notes) is,
      ap (λ (s : Seat Writing). s.view.plain.filled) is,
    )

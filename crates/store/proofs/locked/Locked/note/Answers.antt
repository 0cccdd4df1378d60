use Rattle.std.proofs.Common.{◌≡◌, ℕ, ◌∙◌, length, ap, sym, subst, arith}
use Rattle.line.specs.declared.view.NotedView.{NotedView}
use Rattle.store.specs.declared.writing.Writing.{Writing}
use Rattle.store.proofs.Agreeing.{agrees_as}
use Rattle.store.specs.Callers.{Caller}
use Rattle.store.specs.Rule.{Locked}
use Rattle.store.specs.Views.{IsCaller, HasObserved, caller_by, view_or}
use Rattle.store.proofs.Visits.{entered_view, left_view, noted_view, visited}
use Rattle.store.proofs.locked.Locked.note.Goals as goal

pub invariant_of-self : goal.invariant_of-self
invariant_of-self g c =
    let both = c.enter-seen.ensures.both in
    let notes = c.observe.ensures.observed in
    let stays = c.leave.ensures.stayed in
    let low = c.requires.floor in
    let mine = ap (λ (x : Caller). length x.seen) (ap (λ o. caller_by (view_or o)) (sym c.in-Some.is ∙ c.take.ensures.value) ∙ c.caller.view_is) in
    let floor = ap (λ (l : Locked). l.shard.floor) c.self.view_is in
    let same : length c.leave.new.seat.view.seen ≡ length c.in-Some.seat.view.seen = ap (λ (n : NotedView Writing). length n.seen) stays ∙ ap (λ (n : NotedView Writing). length n.seen) notes.4 ∙ ap (λ (n : NotedView Writing). length n.seen) both in (
      c.leave.ensures.line.0 ∙ c.observe.ensures.line ∙ c.enter-seen.ensures.line ∙ c.self.invariant.0,
      ap (λ (n : NotedView Writing). n.shard) stays ∙ ap (λ (n : NotedView Writing). n.shard) notes.4 ∙ ap (λ (n : NotedView Writing). n.shard) both ∙ c.self.invariant.1,
      ap (λ (n : NotedView Writing). n.caller) stays,
      ap (λ (n : NotedView Writing). n.plain.pending) stays ∙ ap (λ (n : NotedView Writing). n.plain.pending) notes.4 ∙ ap (λ (n : NotedView Writing). n.plain.pending) both ∙ c.self.invariant.3,
      agrees_as _ _ _ _ _ _ _ c.self.invariant.4 (ap (λ (n : NotedView Writing). n.notes) stays ∙ ap (λ (n : NotedView Writing). n.notes) notes.4 ∙ ap (λ (n : NotedView Writing). n.notes) both)
          (ap (λ (n : NotedView Writing). n.plain.filled) stays ∙ ap (λ (n : NotedView Writing). n.plain.filled) notes.4 ∙ ap (λ (n : NotedView Writing). n.plain.filled) both) (omega arith),
    )

pub invariant_of-caller : goal.invariant_of-caller
invariant_of-caller g c =
    let S = g.H.Sharding.shards in
    let own = subst (IsCaller g.N.Naming.line S) (sym c.take.ensures.value ∙ c.in-Some.is) c.caller.invariant in
    let at = ap (λ (n : NotedView Writing). n.shard) c.enter-seen.ensures.both ∙ c.self.invariant.1 in (
      c.leave.ensures.line.1 ∙ c.observe.ensures.line ∙ c.enter-seen.ensures.line ∙ c.self.invariant.0,
      left_view S 0 c.observe.new.seat.view c.leave.result.view c.leave.ensures.left (noted_view S 0 _ c.enter-seen.new.seat.view c.observe.new.seat.view c.self.inside.index at c.observe.ensures.observed
          (entered_view S 0 c.self.inside.seat.view c.in-Some.seat.view c.enter-seen.new.seat.view c.enter-seen.ensures.both own.1)),
    )

pub returns-clause-noted : goal.returns-clause-noted
returns-clause-noted g c =
    let n = visited g.H.Sharding.shards g.N.Naming.capacity _ c.self.inside.seat.view c.in-Some.seat.view c.enter-seen.new.seat.view c.observe.new.seat.view c.leave.result.view c.self.inside.index c.self.invariant.1 c.enter-seen.ensures.both c.observe.ensures.observed c.leave.ensures.left (c.observe.ensures.capacity ∙ c.requires.line.1) in
    let at = subst (λ floor. (d : ℕ) × HasObserved g.H.Sharding.shards g.N.Naming.capacity c.self.inside.index c.self.inside.seat.view.notes floor (caller_by c.in-Some.seat.view) d (caller_by c.leave.result.view)) c.floor.ensures n in
    subst (λ (l : Locked). (d : ℕ) × HasObserved g.H.Sharding.shards g.N.Naming.capacity l.index l.notes l.shard.floor c.args.caller.now d (caller_by c.leave.result.view)) c.self.view_is
    (subst (λ (x : Caller). (d : ℕ) × HasObserved g.H.Sharding.shards g.N.Naming.capacity c.self.inside.index c.self.inside.seat.view.notes c.self.inside.shard.floor x d (caller_by c.leave.result.view))
    (ap (λ o. caller_by (view_or o)) (sym c.in-Some.is ∙ c.take.ensures.value) ∙ c.caller.view_is) at)

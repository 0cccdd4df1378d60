use Rattle.std.proofs.Common.{◌≤◌, None, ap, subst, ◌∙◌, sym}
use Rattle.requests.specs.declared.request.Request.TheVariants.{Compact}
use Rattle.plain_store.specs.Store.{Store, with_floor}
use Rattle.plain_store.proofs.Denials.{readable}
use Rattle.plain_store.proofs.Held.{compacted_is, compacted_up, forgotten_is, forgotten_up}
use Rattle.plain_store.proofs.Runs.{reached_by_a_step, still_reached}
use Rattle.plain_store.proofs.Steps.{compaction_step}
use Rattle.plain_store.proofs.tree_store.Trees.raise_floor.Goals as goal

pub invariant_of-self : goal.invariant_of-self
invariant_of-self c =
    let s = c.args.self.now in
    let to = c.args.to in
    let none = sym c.denied.ensures ∙ c.in_default.is in
    let from = subst (λ (t : Store). (t.floor ≤ to) × (to ≤ t.counter)) (sym c.self.view_is) (readable s.floor s.counter to none) in
    let v = c.self.inside.versions in (
      c.self.invariant.0,
      c.self.invariant.1,
      forgotten_up c.compact.new.self c.forget_removed.new.self c.self.inside.counter c.self.inside.capacity c.forget_removed.ensures.forgotten
          (compacted_up v c.compact.new.self c.self.inside.counter c.self.inside.capacity to c.self.invariant.2 from.0 from.1 c.compact.ensures.raised),
      still_reached _ _ (forgotten_is c.compact.new.self c.forget_removed.new.self c.self.inside.counter c.self.inside.capacity c.forget_removed.ensures.forgotten
          ∙ compacted_is v c.compact.new.self c.self.inside.counter c.self.inside.capacity to c.self.invariant.2 from.0 from.1 c.compact.ensures.raised
          ∙ ap (λ (t : Store). with_floor t to) c.self.view_is ∙ ap (λ e. e.0) (compaction_step s to None (sym none)))
          (reached_by_a_step s (Compact to) (still_reached _ s (sym c.self.view_is) c.self.invariant.3)),
    )

pub returns-clause-raised : goal.returns-clause-raised
returns-clause-raised c =
    let s = c.args.self.now in
    let to = c.args.to in
    let none = sym c.denied.ensures ∙ c.in_default.is in
    let from = subst (λ (t : Store). (t.floor ≤ to) × (to ≤ t.counter)) (sym c.self.view_is) (readable s.floor s.counter to none) in
    forgotten_is c.compact.new.self c.forget_removed.new.self c.self.inside.counter c.self.inside.capacity c.forget_removed.ensures.forgotten
    ∙ compacted_is c.self.inside.versions c.compact.new.self c.self.inside.counter c.self.inside.capacity to c.self.invariant.2 from.0 from.1 c.compact.ensures.raised
    ∙ ap (λ (t : Store). with_floor t to) c.self.view_is

use Rattle.std.proofs.Common.{◌≡◌, Some, None, sym, ap, ◌∙◌}
use Rattle.std.specs.FinMap.{get, insert}
use Rattle.version_map.specs.Named.{both}
use Rattle.version_map.proofs.Tombstones.{both_without_tombstone, got_tombstone, got_listed, put_here, put_keeps}
use Rattle.version_map.proofs.index.Index.lift_tombstone.Goals as goal

pub returns-in-Some-clause-slot : goal.returns-in-Some-clause-slot
returns-in-Some-clause-slot c =
    got_listed c.self.inside.listed c.self.inside.tombstones c.args.key.now c.in-Some.slot (sym c.in-Some.is ∙ c.place-place.ensures.0 ∙ ap (λ i. get i.listed c.args.key.now) (sym c.self.view_is))
    ∙ ap (λ i. get i.all c.args.key.now) c.self.view_is

not_listed : (c : goal.After-remove) → None ≡ get c.self.inside.listed c.args.key.now
not_listed c = sym c.in_default.is ∙ c.place-place.ensures.0 ∙ ap (λ i. get i.listed c.args.key.now) (sym c.self.view_is)

has_tombstone : (c : goal.After-remove) → Some c.in-Some-slot.slot ≡ get c.self.inside.tombstones c.args.key.now
has_tombstone c =
    sym c.in-Some-slot.is ∙ c.place-place.ensures.1 ∙ ap (λ i. get i.all c.args.key.now) (sym c.self.view_is)
    ∙ sym (got_tombstone c.self.inside.listed c.self.inside.tombstones c.args.key.now (not_listed c))

pub returns-clause-all : goal.returns-clause-all
returns-clause-all c =
    ap (λ l. both l c.remove.new.self) c.in_ok-insert.ensures.ok ∙ ap (both (insert c.self.inside.listed c.args.key.now c.in-Some-slot.slot)) c.remove.ensures
    ∙ both_without_tombstone c.self.inside.listed c.self.inside.tombstones c.args.key.now c.in-Some-slot.slot (not_listed c) (has_tombstone c) ∙ ap (λ i. i.all) c.self.view_is

pub returns-clause-listed : goal.returns-clause-listed
returns-clause-listed c = ap (λ l. get l c.args.key.now) c.in_ok-insert.ensures.ok ∙ put_here c.self.inside.listed c.self.inside.tombstones c.args.key.now c.in-Some-slot.slot

pub returns-clause-kept : goal.returns-clause-kept
returns-clause-kept c k p there =
    ap (λ l. get l k) c.in_ok-insert.ensures.ok
    ∙ put_keeps c.self.inside.listed c.self.inside.tombstones c.args.key.now c.in-Some-slot.slot (not_listed c) k p (ap (λ i. get i.listed k) c.self.view_is ∙ there)

use Rattle.std.proofs.Common.{◌≡◌, ◌∷◌, length, sym, ap, subst, ◌∙◌, arith}
use Rattle.std.specs.FinMap as finite
use Rattle.version_map.specs.Forgotten.{AreFree}
use Rattle.version_map.specs.Consistent.{HaveSlots, AreStill}
use Rattle.version_map.proofs.Tombstones.{put_here, put_keeps}
use Rattle.version_map.proofs.Forgotten.{first_taken, free_taken, slotted_taken, still_taken}
use Rattle.version_map.proofs.map.slot_of.Goals as goal
use Rattle.version_map.proofs.map.slot_of.Given.{Over}

taken_free : (g : Over) (c : goal.After-pop_front g) → AreFree c.args.index.now.all (length c.args.chains.now.items) (c.in-Some-copied.slot ∷ c.pop_front.new.self.items)
taken_free g c =
    subst (AreFree c.args.index.now.all (length c.args.chains.now.items))
    (first_taken c.args.free.now.items c.pop_front.new.self.items c.front.result c.in-Some-copied.slot (λ some. let there = c.front.ensures.variant.0 some in omega (arith, there)) c.front.ensures.lookup
    (sym c.copied.ensures ∙ c.in-Some-copied.is) c.pop_front.ensures.rest) c.requires.free

put_in : (g : Over) (c : goal.After-pop_front g) → c.insert.new.self.all ≡ finite.insert c.args.index.now.all c.args.key.now c.in-Some-copied.slot
put_in g c = ap (λ i. i.all) c.in_ok-insert-in-Some-copied.ensures.ok ∙ ap (λ m. finite.insert m c.args.key.now c.in-Some-copied.slot) c.lift_tombstone.ensures.all

pub returns-in_ok-insert-in-Some-copied-clause-slotted : goal.returns-in_ok-insert-in-Some-copied-clause-slotted
returns-in_ok-insert-in-Some-copied-clause-slotted g c =
    subst (λ m. HaveSlots m c.args.chains.now.items) (sym (put_in g c)) (slotted_taken c.args.index.now.all c.args.chains.now.items c.args.key.now c.in-Some-copied.slot c.pop_front.new.self.items c.requires.slotted (sym c.in_ok-found.ensures.slot ∙ c.in-None.is) (taken_free g c))

pub returns-in_ok-insert-in-Some-copied-clause-free : goal.returns-in_ok-insert-in-Some-copied-clause-free
returns-in_ok-insert-in-Some-copied-clause-free g c =
    subst (λ m. AreFree m (length c.args.chains.now.items) c.pop_front.new.self.items) (sym (put_in g c))
    (free_taken c.args.index.now.all c.args.key.now c.in-Some-copied.slot (length c.args.chains.now.items) c.pop_front.new.self.items (taken_free g c))

pub returns-in_ok-insert-in-Some-copied-clause-still : goal.returns-in_ok-insert-in-Some-copied-clause-still
returns-in_ok-insert-in-Some-copied-clause-still g c =
    subst (λ m. AreStill c.args.index.now.all c.args.chains.now.items m c.args.chains.now.items) (sym (put_in g c)) (still_taken c.args.index.now.all c.args.chains.now.items c.args.key.now c.in-Some-copied.slot c.pop_front.new.self.items c.requires.slotted (sym c.in_ok-found.ensures.slot ∙ c.in-None.is) (taken_free g c))

pub returns-in_ok-insert-in-Some-copied-clause-kept : goal.returns-in_ok-insert-in-Some-copied-clause-kept
returns-in_ok-insert-in-Some-copied-clause-kept g c k p there =
    let l = c.lift_tombstone.new.self.listed in
    ap (λ i. finite.get i.listed k) c.in_ok-insert-in-Some-copied.ensures.ok
    ∙ put_keeps l l c.args.key.now c.in-Some-copied.slot (sym (c.in_ok-found.ensures.listed ∙ c.in-None.is)) k p (c.lift_tombstone.ensures.kept k p there)

pub returns-in_ok-insert-in-Some-copied-clause-listed : goal.returns-in_ok-insert-in-Some-copied-clause-listed
returns-in_ok-insert-in-Some-copied-clause-listed g c =
    let l = c.lift_tombstone.new.self.listed in
    ap (λ i. finite.get i.listed c.args.key.now) c.in_ok-insert-in-Some-copied.ensures.ok ∙ put_here l l c.args.key.now c.in-Some-copied.slot

pub returns-in_ok-insert-in-Some-copied-clause-slot : goal.returns-in_ok-insert-in-Some-copied-clause-slot
returns-in_ok-insert-in-Some-copied-clause-slot g c =
    ap (λ i. finite.get i.all c.args.key.now) c.in_ok-insert-in-Some-copied.ensures.ok ∙ put_here c.lift_tombstone.new.self.all c.lift_tombstone.new.self.all c.args.key.now c.in-Some-copied.slot

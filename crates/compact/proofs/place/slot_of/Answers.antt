use Rattle.std.proofs.Common.{◌∙◌, sym, arith, ◌+◌, ◌≡◌}
use Rattle.compact.proofs.Search.{search_begins, slot_last, slot_found, searched, opened, other_text, own_text}
use Rattle.compact.proofs.place.slot_of.Goals as goal

pub slots-init : goal.slots-init
slots-init c = record { searches = search_begins c.args.text.now c.args.entries.now c.args.at c.args.key }

pub returns-in-Less : goal.returns-in-Less
returns-in-Less c ms k d rest is entries plain own at key =
    let s = c.slots.invariant.searches ms k d rest (is, entries, plain, own, at, key) in
    let o = opened s.above c.in-Some.entry.now c.in-Some.behind.now _ s.entries_are c.in-Some.ensures.cases.0 s.plain in
    let new = c.in_ok-new.ensures _ k _ (own_text _ k rest d ms is) at key ∙ own in
    let other = c.in_ok-other.ensures _ o.l _ (other_text _ _ o.l o.e ms s.below s.above o.others is s.is o.is) s.start_is o.key_is ∙ o.own in
    slot_found k _ _ ms c.slots.index c.slots.start c.in-Some.entry.now _ c.in-Some.behind.now s o new other (sym c.in-Less.ensures)

pub slots-preserved : goal.slots-preserved
slots-preserved c = record {
  searches = λ ms k d rest h.
      let s = c.slots.invariant.searches ms k d rest h in
      let o = opened s.above c.in-Some.entry.now c.in-Some.behind.now _ s.entries_are c.in-Some.ensures.cases.0 s.plain in
      let new = c.in_ok-new.ensures _ k _ (own_text _ k rest d ms h.0) h.4 h.5 ∙ h.3 in
      let other = c.in_ok-other.ensures _ o.l _ (other_text _ _ o.l o.e ms s.below s.above o.others h.0 s.is o.is) s.start_is o.key_is ∙ o.own in
      let next : c.in_ok-index.index ≡ c.slots.index + 1 = omega (arith, c.in_ok-index.ensures) in
      let later : c.in_ok-start.start ≡ c.slots.start + c.in-Some.entry.now.size = omega (arith, c.in_ok-start.ensures) in
      searched k _ _ ms c.slots.index c.slots.start c.in_ok-index.index c.in_ok-start.start c.in-Some.entry.now _ c.in-Some.behind.now s o new other (sym c.in-Greater.ensures) next later;
}

pub returns : goal.returns
returns c ms k d rest is entries plain own at key =
    slot_last k ms c.slots.index c.slots.start _ (c.slots.invariant.searches ms k d rest (is, entries, plain, own, at, key)) c.in_default.ensures.cases

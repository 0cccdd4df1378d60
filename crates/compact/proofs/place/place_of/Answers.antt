use Rattle.std.proofs.Common.{◌≡◌, ◌-◌, ◌∙◌, refl, sym, arith}
use Rattle.compact.specs.Places.{HasPlace}
use Rattle.compact.proofs.Passing.{some_weaker}
use Rattle.compact.proofs.Search.{own_text}
use Rattle.compact.proofs.Last.{first_of_all, at_end, last_text, behind_last, before_last}
use Rattle.compact.proofs.place.place_of.Goals as goal

pub returns-in_default : goal.returns-in_default
returns-in_default c ms k d rest is entries plain own last at key = first_of_all k d ms c.args.at c.args.entries.now c.in_default.ensures.cases entries at own

pub returns-in-Greater : goal.returns-in-Greater
returns-in-Greater c ms k d rest is entries plain own last at key =
    let e = at_end ms c.args.at c.in-Some.last.now c.args.entries.now c.in-Some._before.now c.in-Some.ensures.cases.0 entries last at in
    let start : c.in_ok-checked_sub.field-0 ≡ c.args.at - c.in-Some.last.now.size = omega (arith, c.in_ok-checked_sub.ensures) in
    let new = c.in_ok-new.ensures _ k _ (own_text _ k rest d ms is) at key ∙ own in
    let other = c.in_ok-other.ensures _ e.last_of.l _ (last_text _ _ ms is e.last_of) (e.start_is ∙ sym start) e.key_is ∙ e.last_of.own in
    behind_last k _ _ d ms _ c.args.at c.args.entries.now e.last_of new other (sym c.in-Greater.ensures) entries refl at own

pub returns-in-Less : goal.returns-in-Less
returns-in-Less c ms k d rest is entries plain own last at key =
    let e = at_end ms c.args.at c.in-Some.last.now c.args.entries.now c.in-Some._before.now c.in-Some.ensures.cases.0 entries last at in
    let start : c.in_ok-checked_sub.field-0 ≡ c.args.at - c.in-Some.last.now.size = omega (arith, c.in_ok-checked_sub.ensures) in
    let new = c.in_ok-new.ensures _ k _ (own_text _ k rest d ms is) at key ∙ own in
    let other = c.in_ok-other.ensures _ e.last_of.l _ (last_text _ _ ms is e.last_of) (e.start_is ∙ sym start) e.key_is ∙ e.last_of.own in
    some_weaker _ (λ n. HasPlace k d ms n.0 n.1) c.slot_of.result (c.slot_of.ensures ms k d rest is entries plain own at key) (λ n h. before_last k _ _ d ms n.0 n.1 e.last_of new other (sym c.in-Less.ensures) h)

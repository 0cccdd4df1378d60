use Rattle.std.proofs.Common.{sym, ◌∙◌, ap}
use Rattle.std.specs.Ordering.{nat_cmp}
use Rattle.std.specs.Cmp.Lexicographic.{slice_cmp}
use Rattle.compact_objects.proofs.Merging.{above_start, below_none, below_stop, going_begins, going_on}
use Rattle.compact_objects.proofs.merge.write_below.Goals as goal

pub members-init : goal.members-init
members-init c = record {
  going = λ ms ascending is are. going_begins _ _ ms _ _ _ ascending is are;
}

pub returns-in-Less : goal.returns-in-Less
returns-in-Less c ms ascending is are =
    let g = c.members.invariant.going ms ascending is are in
    below_stop _ _ _ _ _ _ _ _ _ _ _ _ g (c.in-Some.ensures.first g.rest g.left_is g.entries_are) (ap (λ k. slice_cmp nat_cmp k c.in-Some.field.key.now) (sym c.as_bytes.ensures.value) ∙ sym c.compare_keys.ensures) c.in-Less.is c.requires

pub members-preserved : goal.members-preserved
members-preserved c = record {
  going = λ ms ascending is are.
      let g = c.members.invariant.going ms ascending is are in
      going_on _ _ _ _ _ _ _ _ _ _ _ _ g (c.in-Some.ensures.first g.rest g.left_is g.entries_are)
      (above_start c.args.key.now _ (ap (λ k. slice_cmp nat_cmp k c.in-Some.field.key.now) (sym c.as_bytes.ensures.value) ∙ sym c.compare_keys.ensures ∙ c.in-Greater.is))
      (c.in_ok-write_other-in-Greater.ensures c.in-Some.field.value.now (c.first_text.ensures g.rest _ _ _ _ g.left_is g.entries_are (c.in-Some.ensures.first g.rest g.left_is g.entries_are)));
}

pub returns : goal.returns
returns c ms ascending is are =
    let g = c.members.invariant.going ms ascending is are in
    below_none _ _ _ _ _ _ _ g (c.in_default.ensures.first g.rest g.left_is g.entries_are)

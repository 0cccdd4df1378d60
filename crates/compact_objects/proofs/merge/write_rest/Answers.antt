use Rattle.compact_objects.proofs.Merging.{above_none, all_written, going_begins, going_on}
use Rattle.compact_objects.proofs.merge.write_rest.Goals as goal

pub members-init : goal.members-init
members-init c = record {
  going = λ ms ascending is are. going_begins _ _ ms _ _ _ ascending is are;
}

pub members-preserved : goal.members-preserved
members-preserved c = record {
  going = λ ms ascending is are.
      let g = c.members.invariant.going ms ascending is are in
      going_on _ _ _ _ _ _ _ _ _ _ _ _ g (c.in-Some.ensures.first g.rest g.left_is g.entries_are) (above_none _) (c.in_ok-write_other.ensures c.in-Some.field.value.now (c.first_text.ensures g.rest _ _ _ _ g.left_is g.entries_are (c.in-Some.ensures.first g.rest g.left_is g.entries_are)));
}

pub returns : goal.returns
returns c ms ascending is are =
    let g = c.members.invariant.going ms ascending is are in
    all_written _ _ _ _ _ _ _ g (c.in_default.ensures.first g.rest g.left_is g.entries_are) c.in_ok-push.ensures.items

use Rattle.std.proofs.Common.{◌≡◌, refl, rules}
use Rattle.std.specs.Vec.Iter.{into_iter_items}
use Rattle.trees.proofs.FoundMembers.{by_key_none, by_key_more}
use Rattle.trees.proofs.found.by_key.Goals as goal

pub loop-name-init : goal.loop-name-init
loop-name-init c =
    let same : into_iter_items c.into_iter-name-iterator.result ≡ c.args.entries.items = search rules in
    record {
      can = tt;
      finite = tt;
      found = by_key_none _ _ _ same c.new-found.ensures.empty c.requires.ascending c.requires.integral;
    }

pub loop-name-preserved : goal.loop-name-preserved
loop-name-preserved c = record {
  can = tt;
  finite = tt;
  found = by_key_more _ _ _ _ _ _ _ _ c.in-Some.ensures.steps.0 refl c.in_ok-insert.ensures.entries c.loop-name.invariant.found;
}

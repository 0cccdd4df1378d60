use Rattle.std.proofs.Common.{sym, ◌∙◌}
use Rattle.trees.proofs.EntryPositions.{above_more}
use Rattle.objects.proofs.Merging.{tokens_more, canonical_more}
use Rattle.objects.proofs.print.write_front.Goals as goal

pub loop-i-preserved : goal.loop-i-preserved
loop-i-preserved c = record {
  above = above_more _ _ _ c.index-entries-i.result c.loop-i.invariant.above c.loop-i-test.true c.index-entries-i.is (rw (← c.as_str.ensures) (sym c.cmp.ensures ∙ c.in-Greater.is));
  tokens = tokens_more c.args.out.now.tokens c.loop-i.out.tokens c.key.new.self.tokens c.write_tree.new.out.tokens c.args.entries.now c.loop-i.i c.index-entries-i.result c.as_str-in-Greater.result.now
      c.loop-i-test.true c.index-entries-i.is c.as_str-in-Greater.ensures c.loop-i.invariant.tokens c.in_ok-key-in-Greater.ensures.ok c.in_ok-write_tree-in-Greater.ensures.tokens;
  before = c.write_tree.ensures.before ∙ c.key.ensures.room.0 ∙ c.loop-i.invariant.before;
  canonical = canonical_more c.args.entries.now c.loop-i.i c.index-entries-i.result _ c.loop-i-test.true c.index-entries-i.is c.in_ok-write_tree-in-Greater.ensures.canonical c.loop-i.invariant.canonical;
}

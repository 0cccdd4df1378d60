use Rattle.std.proofs.Common.{◌≡◌, ◌++◌, take, drop}
use Rattle.trees.specs.Tree.{members_of}
use Rattle.trees.specs.Positions.{IsAbove}
use Rattle.objects.specs.Merged.{entry_tokens}
use Rattle.trees.specs.Canonical.{AreCanonicalMembers}
use Rattle.objects.proofs.print.write_front.Given as goal

abbrev pub invariant-loop-i : goal.invariant-loop-i
invariant-loop-i l = record {
  above : IsAbove l.key l.i l.entries;
  tokens : l.out.tokens ≡ l.fn.out.tokens ++ entry_tokens (take l.i l.entries);
  before : l.out.before ≡ l.fn.out.before;
  canonical : AreCanonicalMembers (members_of (drop l.i l.entries)) → AreCanonicalMembers (members_of l.entries);
}

use Rattle.std.proofs.Common.{◌≡◌, drop}
use Rattle.serde_json.specs.Find.{get_member}
use Rattle.trees.specs.Tree.{members_of}
use Rattle.trees.proofs.tree.find.Given as goal

-- what is found among the members that are left is what is found among all
abbrev pub invariant-loop-name : goal.invariant-loop-name
invariant-loop-name l = get_member l.key (members_of (drop l.name-index l.entries)) ≡ get_member l.key (members_of l.entries)

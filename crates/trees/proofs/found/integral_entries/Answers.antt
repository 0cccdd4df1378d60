use Rattle.std.proofs.Common.{refl, sym}
use Rattle.trees.proofs.FoundMembers.{taken_more, taken_all, ascending_found}
use Rattle.trees.proofs.found.integral_entries.Goals as goal

pub loop-key-preserved : goal.loop-key-preserved
loop-key-preserved c = record {
  can = tt;
  finite = tt;
  taken = taken_more c.args.found.entries _ _ _ _ _ _ _ _ c.in-Some.ensures.steps c.in-Some-value.is refl c.in_ok-push-in-Some-value.ensures.items c.loop-key.invariant.taken;
}

pub returns-clause-entries : goal.returns-clause-entries
returns-clause-entries c = taken_all c.args.found.entries _ _ c.in-None.ensures.steps.0 c.loop-key.invariant.taken

pub returns-clause-ascending : goal.returns-clause-ascending
returns-clause-ascending c = ascending_found c.args.found.entries _ c.len.ensures.ordered (sym (taken_all c.args.found.entries _ _ c.in-None.ensures.steps.0 c.loop-key.invariant.taken))

use Rattle.std.proofs.Common.{◌≡◌, false, sym, subst}
use Rattle.trees.specs.Tree.{members_of}
use Rattle.objects.specs.Object.{has_held}
use Rattle.objects.proofs.Merging.{writes_step, none_left}
use Rattle.objects.proofs.print.write_step.Goals as goal

pub returns-clause-step : goal.returns-clause-step
returns-clause-step c = writes_step _ _ _ _ _ _ _ c.in_ok-rest.ensures.front c.in_ok-write_held.ensures.tokens c.requires.held c.requires.none

pub returns-clause-none : goal.returns-clause-none
returns-clause-none c =
    let w = c.in_ok-rest.ensures.front in
    subst (λ xs. has_held (members_of xs) ≡ false) (sym w.left) (none_left w.count c.args.entries.now c.requires.none)

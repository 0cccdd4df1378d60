use Rattle.std.proofs.Common.{◌≡◌, false, refl, sym, subst}
use Rattle.trees.specs.Tree.{members_of}
use Rattle.objects.specs.Object.{has_held}
use Rattle.objects.proofs.Merging.{none_left, writes_step}
use Rattle.objects.proofs.print.write_step_front.Goals as goal

pub returns-clause-step : goal.returns-clause-step
returns-clause-step c = λ value.
    writes_step c.args.key.now value c.args.entries.now c.in_ok-rest.rest.now c.args.out.now.tokens c.write_front.new.out.tokens _ c.in_ok-rest.ensures.front refl c.requires.held c.requires.none

pub returns-clause-none : goal.returns-clause-none
returns-clause-none c =
    subst (λ es. has_held (members_of es) ≡ false) (sym c.in_ok-rest.ensures.front.left) (none_left c.in_ok-rest.ensures.front.count c.args.entries.now c.requires.none)

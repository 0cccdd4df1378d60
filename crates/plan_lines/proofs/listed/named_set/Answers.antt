use Rattle.std.proofs.Common.{sym}
use Rattle.plan_lines.specs.Objects.{is_named}
use Rattle.plan_lines.proofs.Finding.{find-here, find-later}
use Rattle.plan_lines.proofs.listed.named_set.Goals as goal

pub returns-then-is_named : goal.returns-then-is_named
returns-then-is_named c =
    find-here (is_named c.args.namespace.now c.args.name.now) c.args.sets.now c.loop-set.set-index c.set-item.result _ c.loop-set-test.true c.set-item.is
    c.loop-set.invariant (sym c.if-is_named.ensures)

pub loop-set-preserved : goal.loop-set-preserved
loop-set-preserved c =
    find-later (is_named c.args.namespace.now c.args.name.now) c.args.sets.now c.loop-set.set-index c.set-item.result _ c.loop-set-test.true c.set-item.is
    c.loop-set.invariant (sym c.if-is_named.ensures)

use Rattle.std.proofs.Common.{codes}
use Rattle.compact.proofs.Passing.{stripped, control_is}
use Rattle.compact.proofs.controls.control_rest.Goals as goal

pub returns-clause-escape : goal.returns-clause-escape
returns-clause-escape c =
    control_is c.args.text.now _ _ _ _ _ _ (stripped c.args.text.now (codes "u00") c.in_ok-behind.behind.now c.in_ok-behind.ensures.cases.0 c.in_ok-behind.ensures.cases.1) c.in_ok-high.ensures.cases.0 c.in_ok-low.ensures.cases.0 c.in_ok-_control.ensures

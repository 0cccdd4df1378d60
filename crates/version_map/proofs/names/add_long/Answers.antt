use Rattle.std.proofs.Common.{rules, ◌∙◌}
use Rattle.version_map.proofs.Added.{all_added, none_added, one_added}
use Rattle.version_map.proofs.names.add_long.Goals as goal

pub loop-name-init : goal.loop-name-init
loop-name-init c = none_added _ _ _ (search rules) c.iter-name-items.ensures.ordered

pub loop-name-preserved : goal.loop-name-preserved
loop-name-preserved c = one_added _ _ _ _ _ _ _ _ c.as_bytes.result c.in-Some.ensures.steps (c.as_bytes.ensures.value ∙ c.as_str.ensures) c.in_ok-insert.ensures.updates c.loop-name.invariant

pub returns : goal.returns
returns c = all_added _ _ _ _ c.in-None.ensures.steps.0 c.loop-name.invariant

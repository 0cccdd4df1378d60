use Rattle.std.proofs.Common.{true, false}
use Rattle.plan_lines.specs.Objects.{lists_of}
use Rattle.set_views.specs.Set.{set_parts}
use Rattle.commands.specs.Planning.{planned_text}
use Rattle.commands.proofs.Planned.{text_of_set}
use Rattle.commands.proofs.plan.plan_to_write.Goals as goal

pub returns-in_ok-in_words-clause-planned : goal.returns-in_ok-in_words-clause-planned
returns-in_ok-in_words-clause-planned c =
    text_of_set c.args.asked.now (set_parts c.args.set) (lists_of c.args.listed.now) c.in_ok-plan.plan true (planned_text c.in_ok-in_words.field-0) c.if-asked.true
    c.in_ok-plan.ensures.planned c.in_ok-in_words.ensures

pub returns-else-asked-clause-planned : goal.returns-else-asked-clause-planned
returns-else-asked-clause-planned c =
    text_of_set c.args.asked.now (set_parts c.args.set) (lists_of c.args.listed.now) c.in_ok-plan.plan false (planned_text c.in_json.result) c.if-asked.false
    c.in_ok-plan.ensures.planned c.in_json.ensures

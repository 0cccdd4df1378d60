-- The actions of a plan as text, a line for each.
use Rattle.std.specs.Prelude.{ℕ, List, map}
use Rattle.serde_json.specs.Written.{compact_text}
use Rattle.plain.specs.ValueLines.{text_lines}
use Rattle.reasons.specs.Why.{grounds}
use Rattle.sets.specs.declared.action.Action.{Action}
use Rattle.plan_lines.specs.declared.output.Format.{Format}
use Rattle.plan_lines.specs.declared.output.Format.TheVariants.{Json, Brief}
use Rattle.plan_lines.specs.Actions.{action_data}
use Rattle.plan_lines.specs.Brief.{brief_line, brief_text}

abbrev pub json_text : List Action → List ℕ
json_text actions = text_lines (map action_data actions)

abbrev pub actions_text : Format → List Action → List ℕ
actions_text Json actions = json_text actions
actions_text (Brief why) actions = brief_text (grounds why.now) actions

-- ---- for private clauses

-- the line of one action, without its line feed
abbrev pub action_text : Format → Action → List ℕ
action_text Json a = compact_text (action_data a)
action_text (Brief why) a = brief_line (grounds why.now) a

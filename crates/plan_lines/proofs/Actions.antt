-- The lines of actions, one after another, and how much of them was written.
use Rattle.std.proofs.Common.{◌≡◌, refl, ℕ, ◌+◌, ◌<◌, List, [], ◌∷◌, ◌++◌, map, length, get_or, drop, Option, sym, ap, ◌∙◌, append_assoc}
use Rattle.serde_json.specs.Written.{compact_text}
use Rattle.plain.specs.Streams.{PutsPart}
use Rattle.plain.specs.ValueLines.{text_lines}
use Rattle.sets.specs.declared.action.Action.{Action}
use Rattle.plan_lines.specs.declared.output.Format.{Format}
use Rattle.plan_lines.specs.declared.output.Format.TheVariants.{Json, Brief}
use Rattle.plan_lines.specs.Actions.{action_data}
use Rattle.plan_lines.specs.Brief.{brief_line, brief_text}
use Rattle.reasons.specs.Why.{grounds}
use Rattle.plan_lines.specs.Formats.{action_text, actions_text}
use Rattle.plan_lines.specs.Output.{PutsBut}
use Rattle.plan_lines.proofs.Finding.{at_drop}
use Rattle.plan_lines.proofs.Put.{PutsBut-then, PutsBut-part}

-- the lines are that of the first action and those after it
first_line : (format : Format) (last : List ℕ) (a : Action) (actions : List Action)
    → actions_text format (a ∷ actions) ++ last ≡ (action_text format a ++ 10 ∷ []) ++ (actions_text format actions ++ last)
first_line Json last a actions =
    ap (λ t. t ++ last) (sym (append_assoc (compact_text (action_data a)) (10 ∷ []) (text_lines (map action_data actions))))
    ∙ append_assoc (compact_text (action_data a) ++ 10 ∷ []) (text_lines (map action_data actions)) last
first_line (Brief why) last a actions =
    ap (λ t. t ++ last) (sym (append_assoc (brief_line (grounds why.now) a) (10 ∷ []) (brief_text (grounds why.now) actions)))
    ∙ append_assoc (brief_line (grounds why.now) a ++ 10 ∷ []) (brief_text (grounds why.now) actions) last

-- no action has no line
pub no-lines : (format : Format) (last : List ℕ) → actions_text format [] ++ last ≡ last
no-lines Json last = refl
no-lines (Brief why) last = refl

-- the lines that wait and those from an action on
waiting_from : (format : Format) (waiting last : List ℕ) (actions : List Action) (at : ℕ) (a : Action) → at < length actions → a ≡ get_or actions at a
    → waiting ++ (actions_text format (drop at actions) ++ last)
    ≡ (waiting ++ (action_text format a ++ 10 ∷ [])) ++ (actions_text format (drop (at + 1) actions) ++ last)
waiting_from format waiting last actions at a inside is =
    ap (λ t. waiting ++ t) (ap (λ l. actions_text format l ++ last) (at_drop actions at a inside is) ∙ first_line format last a (drop (at + 1) actions))
    ∙ sym (append_assoc waiting (action_text format a ++ 10 ∷ []) (actions_text format (drop (at + 1) actions) ++ last))

-- the line of an action was appended to what waits, and a part of it all was written
pub line-put : (format : Format) (last : List ℕ) (old now new : Option (List ℕ)) (all waiting left : List ℕ) (actions : List Action) (at : ℕ) (a : Action)
    → at < length actions → a ≡ get_or actions at a → PutsBut old all (waiting ++ (actions_text format (drop at actions) ++ last)) now
    → PutsBut now (waiting ++ (action_text format a ++ 10 ∷ [])) left new
    → PutsBut old all (left ++ (actions_text format (drop (at + 1) actions) ++ last)) new
line-put format last old now new all waiting left actions at a inside is so_far next =
    PutsBut-then old now new all _ _ left (actions_text format (drop (at + 1) actions) ++ last) so_far (waiting_from format waiting last actions at a inside is) next

pub line-part : (format : Format) (last : List ℕ) (old now new : Option (List ℕ)) (all waiting : List ℕ) (actions : List Action) (at : ℕ) (a : Action)
    → at < length actions → a ≡ get_or actions at a → PutsBut old all (waiting ++ (actions_text format (drop at actions) ++ last)) now
    → PutsPart now (waiting ++ (action_text format a ++ 10 ∷ [])) new → PutsPart old all new
line-part format last old now new all waiting actions at a inside is so_far next =
    PutsBut-part old now new all _ _ (actions_text format (drop (at + 1) actions) ++ last) so_far (waiting_from format waiting last actions at a inside is) next

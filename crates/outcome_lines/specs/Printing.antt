-- What `stsctl outcomes` prints: a line for each end of a race, and last how many there are. All are compact JSON with
-- keys in byte order.
use Rattle.std.specs.Prelude.{ℕ, List, [], ◌∷◌, ◌++◌, false, length, map, codes}
use Rattle.serde_json.specs.Data.{Data, null, boolean, number, unsigned, array, Items, no_items, item, object, Members, no_members, member}
use Rattle.serde_json.specs.Written.{compact_text}
use Rattle.requests.specs.declared.reply.Reply.{Reply}
use Rattle.explorer.specs.declared.race.End.{End}
use Rattle.participants.specs.declared.told.Told.{Told}
use Rattle.participants.specs.declared.told.Told.TheVariants.{Heard, Unasked, Unheard}
use Rattle.plain.specs.Replies.{reply_data}
use Rattle.plain.specs.ValueLines.{text_lines}
use Rattle.race_lines.specs.declared.race.Sent.{Sent}
use Rattle.outcome_lines.specs.declared.lined.LinedMove.{LinedMove}
use Rattle.outcome_lines.specs.declared.lined.LinedMove.TheVariants.{Ask, Crash, Late}
use Rattle.race_lines.specs.declared.question.AskedRace.{AskedRace}
use Rattle.race_lines.specs.declared.question.Question.{Question}
use Rattle.race_lines.specs.declared.question.Question.TheVariants as question
use Rattle.outcome_lines.specs.Lined.{every_told, lined_order}
use Rattle.race_lines.specs.Questions.{told_lists}
use Rattle.outcome_lines.specs.Stores.{objects_in, revision_in, store_data, store_items}

-- ---- what callers are told

-- `{"caller":N,"reply":R}`
abbrev pub replied_data : (caller : ℕ) → (reply : Data) → Data
replied_data caller reply = object (member (codes "caller") (number (unsigned caller)) (member (codes "reply") reply no_members))

-- `{"asked":false,"caller":N}`
abbrev pub unasked_data : (caller : ℕ) → Data
unasked_data caller = object (member (codes "asked") (boolean false) (member (codes "caller") (number (unsigned caller)) no_members))

-- the reply is null for a request within which its caller crashes
abbrev pub answer_data : (caller : ℕ) → Told → Data
answer_data caller (Heard reply) = replied_data caller (reply_data reply)
answer_data caller Unasked = unasked_data caller
answer_data caller Unheard = replied_data caller null

-- one for each request of a caller
abbrev pub answers : List Sent → List Told → Items
answers [] told = no_items
answers (s ∷ sent) [] = no_items
answers (s ∷ sent) (t ∷ told) = item (answer_data s.caller t) (answers sent told)

-- ---- in which order

-- `{"crash":I}`
abbrev pub named_data : (name : List ℕ) → (line : ℕ) → Data
named_data name line = object (member name (number (unsigned line)) no_members)

abbrev pub move_data : LinedMove → Data
move_data (Ask line) = number (unsigned line)
move_data (Crash line) = named_data (codes "crash") line
move_data (Late line) = named_data (codes "late") line

abbrev pub move_items : List LinedMove → Items
move_items [] = no_items
move_items (m ∷ order) = item (move_data m) (move_items order)

-- ---- one end

-- `"order":[..],"replies":[..]`, and the members after them
abbrev pub told_members : List LinedMove → List Sent → List Told → Members → Members
told_members order sent told ms = member (codes "order") (array (move_items order)) (member (codes "replies") (array (answers sent told)) ms)

abbrev pub told_data : List LinedMove → List Sent → List Told → Data
told_data order sent told = object (told_members order sent told no_members)

-- `{"order":[..],"replies":[..],"revision":V,"store":[OBJECT,..]}`
abbrev pub both_data : List LinedMove → List Sent → List Told → List Reply → Data
both_data order sent told shown =
    object (told_members order sent told
    (member (codes "revision") (number (unsigned (revision_in shown))) (member (codes "store") (array (store_items (objects_in shown))) no_members)))

abbrev pub told_of : AskedRace → End → List Told
told_of a e = every_told a.sent.items (told_lists e.told.items)

abbrev pub end_data : Question → AskedRace → End → Data
end_data question.Told a e = told_data (lined_order a e) a.sent.items (told_of a e)
end_data question.Stores a e = store_data e.looks.items
end_data question.Both a e = both_data (lined_order a e) a.sent.items (told_of a e) e.looks.items

-- ---- all lines

abbrev pub nouns : Question → List ℕ
nouns question.Told = codes "outcomes"
nouns question.Stores = codes "stores"
nouns question.Both = codes "ends"

abbrev pub ends_text : Question → AskedRace → List End → List ℕ
ends_text q a found = text_lines (map (end_data q a) found) ++ (compact_text (named_data (nouns q) (length found)) ++ 10 ∷ [])

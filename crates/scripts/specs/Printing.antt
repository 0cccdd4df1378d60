-- What `stsctl replay` prints of a run: a line for each reply, and last the order. All are compact JSON.
use Rattle.std.specs.Prelude.{ℕ, List, [], ◌∷◌, ◌++◌, codes}
use Rattle.serde_json.specs.Data.{Data, number, unsigned, array, Items, no_items, item, object, no_members, member}
use Rattle.serde_json.specs.Written.{compact_text}
use Rattle.requests.specs.declared.reply.Reply.{Reply}
use Rattle.plain.specs.Replies.{reply_data}
use Rattle.plain.specs.ValueLines.{text_lines}
use Rattle.interleavings.specs.declared.trace.Item.{Item}
use Rattle.interleavings.specs.declared.trace.Item.TheVariants as item_is

-- `{"at":P,"caller":N,"reply":R}`
abbrev pub reply_data_at : (place caller : ℕ) → Reply → Data
reply_data_at place caller reply =
    object (member (codes "at") (number (unsigned place)) (member (codes "caller") (number (unsigned caller)) (member (codes "reply") (reply_data reply) no_members)))

-- calls are not shown
abbrev pub shown : List Item → List Data
shown [] = []
shown (item_is.Call place caller request ∷ items) = shown items
shown (item_is.Reply place caller reply ∷ items) = reply_data_at place caller reply ∷ shown items

abbrev pub numbers : List ℕ → Items
numbers [] = no_items
numbers (n ∷ ns) = item (number (unsigned n)) (numbers ns)

-- `{"order":[P,..]}`
abbrev pub order_data : List ℕ → Data
order_data places = object (member (codes "order") (array (numbers places)) no_members)

abbrev pub run_text : List Item → List ℕ → List ℕ
run_text items order = text_lines (shown items) ++ (compact_text (order_data order) ++ 10 ∷ [])

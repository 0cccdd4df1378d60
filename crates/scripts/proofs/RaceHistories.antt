-- The lines of a history, one after another, and how much of them was written.
use Rattle.std.proofs.Common.{◌≡◌, ℕ, ◌+◌, ◌<◌, List, [], ◌∷◌, ◌++◌, map, length, get_or, drop, Option, Result, Ok, Err, sym, ap, ◌∙◌, append_assoc, subst}
use Rattle.std.specs.Prelude.{OnOk, OnSome}
use Rattle.std.specs.Result.{result_ok}
use Rattle.serde_json.specs.Written.{compact_text}
use Rattle.plain.specs.Streams.{PutsPart}
use Rattle.plain.specs.ValueLines.{text_lines}
use Rattle.interleavings.specs.declared.trace.Item.{Item}
use Rattle.plan_lines.specs.Output.{PutsBut}
use Rattle.plan_lines.proofs.Put.{PutsBut-then, PutsBut-part}
use Rattle.scripts.proofs.Lines.{at_drop}
use Rattle.scripts.specs.Printing.{order_data}
use Rattle.race_log.specs.declared.spec.RaceSpec.{RaceSpec}
use Rattle.scripts.specs.RaceHistory.{history_text, item_data}

-- the history from an item on is its line and the history after it
history_from : (spec : RaceSpec) (items : List Item) (order : List ℕ) (at : ℕ) (i : Item) → at < length items → i ≡ get_or items at i
    → history_text spec (drop at items) order ≡ (compact_text (item_data spec i) ++ 10 ∷ []) ++ history_text spec (drop (at + 1) items) order
history_from spec items order at i inside is =
    let line = compact_text (item_data spec i) in
    let later = text_lines (map (item_data spec) (drop (at + 1) items)) in
    let last = compact_text (order_data order) ++ 10 ∷ [] in
    ap (λ rest. history_text spec rest order) (at_drop items at i inside is)
    ∙ append_assoc line (10 ∷ later) last ∙ sym (append_assoc line (10 ∷ []) (later ++ last))

-- what waits and the history from an item on
waiting_from : (waiting : List ℕ) (spec : RaceSpec) (items : List Item) (order : List ℕ) (at : ℕ) (i : Item) → at < length items → i ≡ get_or items at i
    → waiting ++ history_text spec (drop at items) order
    ≡ (waiting ++ (compact_text (item_data spec i) ++ 10 ∷ [])) ++ history_text spec (drop (at + 1) items) order
waiting_from waiting spec items order at i inside is =
    ap (λ t. waiting ++ t) (history_from spec items order at i inside is)
    ∙ sym (append_assoc waiting (compact_text (item_data spec i) ++ 10 ∷ []) (history_text spec (drop (at + 1) items) order))

-- after the last item comes the order
pub history_end : (spec : RaceSpec) (items : List Item) (order : List ℕ) → items ≡ [] → history_text spec items order ≡ compact_text (order_data order) ++ 10 ∷ []
history_end spec items order none = ap (λ rest. history_text spec rest order) none

-- the line of an item was appended to what waits, and a part of it all was written
pub line-put : (old now new : Option (List ℕ)) (all waiting left : List ℕ) (spec : RaceSpec) (items : List Item) (order : List ℕ) (at : ℕ) (i : Item)
    → at < length items → i ≡ get_or items at i → PutsBut old all (waiting ++ history_text spec (drop at items) order) now
    → PutsBut now (waiting ++ (compact_text (item_data spec i) ++ 10 ∷ [])) left new
    → PutsBut old all (left ++ history_text spec (drop (at + 1) items) order) new
line-put old now new all waiting left spec items order at i inside is so_far next =
    PutsBut-then old now new all _ _ left (history_text spec (drop (at + 1) items) order) so_far (waiting_from waiting spec items order at i inside is) next

pub line-part : (old now new : Option (List ℕ)) (all waiting : List ℕ) (spec : RaceSpec) (items : List Item) (order : List ℕ) (at : ℕ) (i : Item)
    → at < length items → i ≡ get_or items at i → PutsBut old all (waiting ++ history_text spec (drop at items) order) now
    → PutsPart now (waiting ++ (compact_text (item_data spec i) ++ 10 ∷ [])) new → PutsPart old all new
line-part old now new all waiting spec items order at i inside is so_far next =
    PutsBut-part old now new all _ _ (history_text spec (drop (at + 1) items) order) so_far (waiting_from waiting spec items order at i inside is) next

-- what follows if the one is there follows if the other is Ok
pub ok_where_some : {A E : Type 0} (o : Option A) (r : Result A E) (P Q : Type 0) → o ≡ result_ok r → OnSome o P → (P → Q) → OnOk r Q
ok_where_some o (Ok x) P Q is holds follows = follows (subst (λ s. OnSome s P) is holds)
ok_where_some o (Err e) P Q is holds follows = tt

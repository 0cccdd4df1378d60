-- What is written of a run, line by line.
use Rattle.std.proofs.Common.{◌≡◌, ℕ, suc, ◌+◌, ◌<◌, List, [], ◌∷◌, ◌++◌, length, get_or, drop, refl, sym, ap, ◌∙◌, append_assoc, add-one, drop-cons}
use Rattle.serde_json.specs.Written.{compact_text}
use Rattle.interleavings.specs.declared.trace.Item.{Item}
use Rattle.interleavings.specs.declared.trace.Item.TheVariants as item_is
use Rattle.scripts.specs.Printing.{reply_data_at, shown}
use Rattle.plain.specs.ValueLines.{text_lines}

shown-first : (i : Item) (items : List Item) → text_lines (shown (i ∷ items)) ≡ text_lines (shown (i ∷ [])) ++ text_lines (shown items)
shown-first (item_is.Call place caller r) items = refl
shown-first (item_is.Reply place caller r) items = sym (append_assoc (compact_text (reply_data_at place caller r)) (10 ∷ []) (text_lines (shown items)))

pub at_drop : (items : List Item) (at : ℕ) (i : Item) → at < length items → i ≡ get_or items at i → drop at items ≡ i ∷ drop (at + 1) items
at_drop items at i inside is = rw add-one (drop-cons items at i inside ∙ ap (λ x. x ∷ drop (suc at) items) (sym is))

-- what is written and what is left to write are together the whole
pub shown-next : (items : List Item) (at : ℕ) (i : Item) (old new all : List ℕ) → at < length items → i ≡ get_or items at i
    → old ++ text_lines (shown (drop at items)) ≡ all → new ≡ old ++ text_lines (shown (i ∷ [])) → new ++ text_lines (shown (drop (at + 1) items)) ≡ all
shown-next items at i old new all inside is so_far written =
    ap (λ t. t ++ text_lines (shown (drop (at + 1) items))) written
    ∙ append_assoc old (text_lines (shown (i ∷ []))) (text_lines (shown (drop (at + 1) items)))
    ∙ ap (λ t. old ++ t) (sym (shown-first i (drop (at + 1) items))) ∙ ap (λ is. old ++ text_lines (shown is)) (sym (at_drop items at i inside is)) ∙ so_far

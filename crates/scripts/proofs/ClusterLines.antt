-- What is written of a cluster's run, line by line, and the tokens of a call.
use Rattle.std.proofs.Common.{◌≡◌, ℕ, ◌+◌, ◌<◌, List, [], ◌∷◌, ◌++◌, codes, length, get_or, drop, Option, Some, None, refl, sym, ap, ◌∙◌, append_assoc}
use Rattle.json.specs.Token as token
use Rattle.json.specs.Tree.{json_tokens}
use Rattle.serde_json.specs.Written.{compact_text, outline}
use Rattle.requests.specs.declared.request.Request.{Request}
use Rattle.plain.specs.ValueLines.{text_lines}
use Rattle.interleavings.specs.declared.trace.Item.{Item}
use Rattle.scripts.proofs.Lines.{at_drop}
use Rattle.scripts.specs.ClusterPrinting.{call_data_at, caller_tokens, item_shown, shown}
use Rattle.scripts.specs.RequestLine.{request_data}

-- what is shown from an item on is its line, and what is shown of those after it
shown_from : (owner : ℕ → Option ℕ) (items : List Item) (at : ℕ) (i : Item) → at < length items → i ≡ get_or items at i
    → text_lines (shown owner (drop at items)) ≡ (compact_text (item_shown owner i) ++ 10 ∷ []) ++ text_lines (shown owner (drop (at + 1) items))
shown_from owner items at i inside is =
    ap (λ rest. text_lines (shown owner rest)) (at_drop items at i inside is)
    ∙ sym (append_assoc (compact_text (item_shown owner i)) (10 ∷ []) (text_lines (shown owner (drop (at + 1) items))))

-- what is written and what is left to write are together the whole
pub shown_next : (owner : ℕ → Option ℕ) (items : List Item) (at : ℕ) (i : Item) (old new all : List ℕ) → at < length items → i ≡ get_or items at i
    → old ++ text_lines (shown owner (drop at items)) ≡ all → new ≡ old ++ (compact_text (item_shown owner i) ++ 10 ∷ [])
    → new ++ text_lines (shown owner (drop (at + 1) items)) ≡ all
shown_next owner items at i old new all inside is so_far written =
    let rest = text_lines (shown owner (drop (at + 1) items)) in
    ap (λ t. t ++ rest) written ∙ append_assoc old (compact_text (item_shown owner i) ++ 10 ∷ []) rest
    ∙ ap (λ t. old ++ t) (sym (shown_from owner items at i inside is)) ∙ so_far

pub call_tokens : (place caller : ℕ) (controller : Option ℕ) (request : Request)
    → token.begin_object ∷ (caller_tokens place caller controller ++ token.key (codes "request") ∷ (json_tokens (outline (request_data request)) ++ token.end_object ∷ []))
    ≡ json_tokens (outline (call_data_at place caller controller request))
call_tokens place caller None request = refl
call_tokens place caller (Some controller) request = refl

-- What a run has to show of the beginning of a race, as it is tested.
use Rattle.std.specs.Prelude.{ℕ, Bool, true, false, ◌==◌, ◌&&◌, nat_lt, is_some, List, [], ◌∷◌, if◌then◌else◌}
use Rattle.std.specs.List.{list_all}
use Rattle.requests.specs.declared.request.Request.{Request}
use Rattle.interleavings.specs.declared.trace.Item.{Item}
use Rattle.interleavings.specs.declared.trace.Item.TheVariants as item
use Rattle.outcomes.specs.Outcomes.{Exchange}
use Rattle.race_scripts.specs.Same.{same_request}

-- exactly these requests are sent, and each has a reply
abbrev pub answered_just : List Exchange → List Request → Bool
answered_just [] [] = true
answered_just (x ∷ xs) (r ∷ rs) = is_some x.reply && same_request x.request r && answered_just xs rs
answered_just xs rs = false

-- a reply to the caller comes before the index
abbrev pub is_before : (caller place : ℕ) → Item → Bool
is_before c place (item.Call at caller request) = true
is_before c place (item.Reply at caller reply) = if caller == c then nat_lt at place else true

-- a call of another caller comes after all replies to the caller
abbrev pub comes_later : (caller : ℕ) → List Item → Item → Bool
comes_later c items (item.Call place caller request) = if caller == c then true else list_all (is_before c place) items
comes_later c items (item.Reply place caller reply) = true

abbrev pub goes_first : (caller : ℕ) → List Item → Bool
goes_first c items = list_all (comes_later c items) items

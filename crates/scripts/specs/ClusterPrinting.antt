-- What `stsctl cluster` prints of a run: a line for each call and for each reply, and last the order. All are compact JSON.
use Rattle.std.specs.Prelude.{ℕ, List, [], ◌∷◌, ◌++◌, codes, decimal, Option, Some, None}
use Rattle.json.specs.Token as token
use Rattle.json.specs.Token.{Token}
use Rattle.serde_json.specs.Data.{Data, Members, number, unsigned, object, no_members, member}
use Rattle.serde_json.specs.Written.{compact_text}
use Rattle.requests.specs.declared.request.Request.{Request}
use Rattle.plain.specs.ValueLines.{text_lines}
use Rattle.interleavings.specs.declared.trace.Item.{Item}
use Rattle.interleavings.specs.declared.trace.Item.TheVariants as item_is
use Rattle.scripts.specs.Printing.{order_data, reply_data_at}
pub use Rattle.cluster_runs.specs.Ran.{owner_in}
use Rattle.scripts.specs.RequestLine.{request_data}

-- the number of a controller, if there is one
abbrev pub controller_if : Option ℕ → Members → Members
controller_if None ms = ms
controller_if (Some controller) ms = member (codes "controller") (number (unsigned controller)) ms

-- `{"at":P,"caller":N,"controller":I,"request":L}`; the controller that is or was the caller, left out if there is none
abbrev pub call_data_at : (place caller : ℕ) → Option ℕ → Request → Data
call_data_at place caller controller request =
    object (member (codes "at") (number (unsigned place)) (member (codes "caller") (number (unsigned caller))
    (controller_if controller (member (codes "request") (request_data request) no_members))))

abbrev pub item_shown : (ℕ → Option ℕ) → Item → Data
item_shown owner (item_is.Call place caller request) = call_data_at place caller (owner caller) request
item_shown owner (item_is.Reply place caller reply) = reply_data_at place caller reply

abbrev pub shown : (ℕ → Option ℕ) → List Item → List Data
shown owner [] = []
shown owner (i ∷ items) = item_shown owner i ∷ shown owner items

abbrev pub cluster_text : (ℕ → Option ℕ) → List Item → List ℕ → List ℕ
cluster_text owner items order = text_lines (shown owner items) ++ (compact_text (order_data order) ++ 10 ∷ [])

-- ---- for private clauses

abbrev pub controller_tokens : Option ℕ → List Token
controller_tokens None = []
controller_tokens (Some controller) = token.key (codes "controller") ∷ token.number (decimal controller) ∷ []

abbrev pub caller_tokens : (place caller : ℕ) → Option ℕ → List Token
caller_tokens place caller controller =
    token.key (codes "at") ∷ token.number (decimal place) ∷ token.key (codes "caller") ∷ token.number (decimal caller) ∷ controller_tokens controller

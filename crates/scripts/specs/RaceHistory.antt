-- What `stsctl race --history` prints of a race before its report: a line for each call and each reply, and last the order. All
-- are compact JSON with keys in byte order.
use Rattle.std.specs.Prelude.{ℕ, ◌+◌, ◌==◌, ◌&&◌, nat_lt, true, List, [], ◌∷◌, ◌++◌, map, codes, decimal, if◌then◌else◌}
use Rattle.json.specs.Token as token
use Rattle.json.specs.Token.{Token}
use Rattle.serde_json.specs.Data.{Data, boolean, number, unsigned, object, Members, no_members, member}
use Rattle.serde_json.specs.Written.{compact_text}
use Rattle.requests.specs.declared.request.Request.{Request}
use Rattle.plain.specs.ValueLines.{text_lines}
use Rattle.interleavings.specs.declared.trace.Item.{Item}
use Rattle.interleavings.specs.declared.trace.Item.TheVariants as item_is
use Rattle.scripts.specs.Printing.{order_data, reply_data_at}
use Rattle.scripts.specs.RequestLine.{request_data}
use Rattle.race_log.specs.declared.spec.RaceSpec.{RaceSpec}
use Rattle.scripts.specs.declared.race_role.Role.{Role}
use Rattle.scripts.specs.declared.race_role.Role.TheVariants.{Controller, Kubelet, Operator, Other}

-- The first callers are the controllers, and the next is the kubelet. The one after it creates the set; then comes the
-- operator, if there is one.
abbrev pub role_of : RaceSpec → (caller : ℕ) → Role
role_of spec caller =
    if nat_lt caller spec.controllers then Controller
    else (if caller == spec.controllers then Kubelet
    else (if spec.operator && (caller == spec.controllers + 2) then Operator else Other))

-- `"controller":N`, `"kubelet":true`, `"operator":true` or nothing, and the members after it
abbrev pub role_members : Role → (caller : ℕ) → Members → Members
role_members Controller caller ms = member (codes "controller") (number (unsigned caller)) ms
role_members Kubelet caller ms = member (codes "kubelet") (boolean true) ms
role_members Operator caller ms = member (codes "operator") (boolean true) ms
role_members Other caller ms = ms

-- `{"at":P,"caller":N,"controller":N,"request":L}`, by the caller's role
abbrev pub call_data : (place caller : ℕ) → Role → Request → Data
call_data place caller role request =
    object (member (codes "at") (number (unsigned place)) (member (codes "caller") (number (unsigned caller))
    (role_members role caller (member (codes "request") (request_data request) no_members))))

abbrev pub item_data : RaceSpec → Item → Data
item_data spec (item_is.Call place caller request) = call_data place caller (role_of spec caller) request
item_data spec (item_is.Reply place caller reply) = reply_data_at place caller reply

abbrev pub history_text : RaceSpec → List Item → List ℕ → List ℕ
history_text spec items order = text_lines (map (item_data spec) items) ++ (compact_text (order_data order) ++ 10 ∷ [])

-- ---- for private clauses

abbrev pub flag_tokens : List ℕ → List Token
flag_tokens name = token.key name ∷ token.boolean true ∷ []

abbrev pub role_tokens : Role → (caller : ℕ) → List Token
role_tokens Controller caller = token.key (codes "controller") ∷ token.number (decimal caller) ∷ []
role_tokens Kubelet caller = flag_tokens (codes "kubelet")
role_tokens Operator caller = flag_tokens (codes "operator")
role_tokens Other caller = []

abbrev pub caller_tokens : (place caller : ℕ) → Role → List Token
caller_tokens place caller role =
    token.key (codes "at") ∷ token.number (decimal place) ∷ token.key (codes "caller") ∷ token.number (decimal caller) ∷ role_tokens role caller

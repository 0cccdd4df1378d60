-- What one plain store handled, in its order: who sent it, the request, and the reply.
use Rattle.std.specs.Prelude.{◌≡◌, ◌==◌, ℕ, Bool, false, ◌&&◌, List, [], ◌∷◌, Option, Some, None, if◌then◌else◌}
use Rattle.requests.specs.declared.request.Request.{Request}
use Rattle.requests.specs.declared.reply.Reply.{Reply}
use Rattle.plain_store.specs.Run.{exchanges}
use Rattle.plain_store.specs.Store.{opening}

-- a request with its reply
abbrev pub Exchange : Type 0
Exchange = Request × Reply

-- An incarnation of a controller is what it does between two crashes: the controller's number, and how often it crashed
-- before.
pub record Incarnation : Type 0 where
  pub controller : ℕ
  pub crashes : ℕ

-- The sender, the request and the reply. A sender that is no controller has no incarnation.
abbrev pub Entry : Type 0
Entry = Option Incarnation × Request × Reply

abbrev pub requests_of : List Entry → List Request
requests_of [] = []
requests_of (e ∷ es) = e.1 ∷ requests_of es

abbrev pub exchanges_of : List Entry → List Exchange
exchanges_of [] = []
exchanges_of (e ∷ es) = (e.1, e.2) ∷ exchanges_of es

-- the replies are those of one plain store, from its opening on
abbrev pub IsRun : ℕ → List Entry → Type 0
IsRun capacity entries = exchanges_of entries ≡ exchanges (opening capacity) (requests_of entries)

abbrev pub is_by : Incarnation → Option Incarnation → Bool
is_by incarnation None = false
is_by incarnation (Some other) = incarnation.controller == other.controller && incarnation.crashes == other.crashes

-- the requests of one incarnation and their replies, in order
abbrev pub of_incarnation : Incarnation → List Entry → List Exchange
of_incarnation incarnation [] = []
of_incarnation incarnation (e ∷ es) = if is_by incarnation e.0 then (e.1, e.2) ∷ of_incarnation incarnation es else of_incarnation incarnation es

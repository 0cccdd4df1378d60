-- The requests and replies of the callers of a race, each caller's in order.
use Rattle.std.specs.Prelude.{◌≡◌, ◌<◌, ◌≤◌, ℕ, ◌+◌, ◌*◌, Bool, true, false, List, [], ◌∷◌, ◌++◌, length, map, ⊤, Option, Some, None, codes, if◌then◌else◌}
use Rattle.std.specs.List.{All}
use Rattle.objects.specs.declared.kind.Kind.TheVariants.{StatefulSet, Pod}
use Rattle.objects.specs.Key.{key_parts}
use Rattle.requests.specs.declared.request.Request.{Request}
use Rattle.requests.specs.declared.request.Request.TheVariants as request
use Rattle.requests.specs.declared.request.Request.TheVariants.{Get}
use Rattle.requests.specs.declared.reply.Reply.{Reply}
use Rattle.requests.specs.declared.reply.Reply.TheVariants.{Listed}
use Rattle.rounds.specs.Kubelet.{kubelet_requests_of}
use Rattle.rounds.specs.Incarnation.{Follows, phase_after}
use Rattle.rounds.specs.Phase.{Phase, asks, reading_set}
use Rattle.rounds.specs.Reconciler.{Reconciler}
use Rattle.rounds.specs.Transcript.{Exchange}
use Rattle.controllers.specs.Reconciler.{reconciler_with}
use Rattle.race_log.specs.declared.part.TimedExchange.{TimedExchange}
use Rattle.race_log.specs.declared.part.Part.{Part}
use Rattle.race_log.specs.declared.spec.RaceSpec.{RaceSpec}
use Rattle.race_log.specs.declared.judge.RaceHistory.{RaceHistory}
use Rattle.race_log.specs.Judged.{IsHistoryOf}
use Rattle.race_log.specs.Limits.{race_capacity}
use Rattle.race_log.specs.Logged.{IsNoted, Noted}
use Rattle.race_log.specs.Merge.{IsMergeOf}
use Rattle.race_log.specs.Operator.{operator_asks}
use Rattle.race_log.specs.RaceSet.{creates_set, set_name, set_namespace}
use Rattle.store.specs.Callers.{Caller}
use Rattle.racing.specs.Answered.{HasReply, IsAnswered}

abbrev pub exchanges_of : List TimedExchange → List Exchange
exchanges_of [] = []
exchanges_of (a ∷ more) = (a.request, a.reply) ∷ exchanges_of more

-- Each reply is the plain store's in what the caller has seen in the end. No number is below n, nor below that of an
-- earlier reply.
abbrev pub AreGiven : (shards capacity : ℕ) → Caller → (n : ℕ) → List TimedExchange → Type 0
AreGiven shards capacity known n [] = ⊤
AreGiven shards capacity known n (a ∷ more) =
    (n ≤ a.number) × IsAnswered shards capacity known a.request a.reply a.number × AreGiven shards capacity known a.number more

-- the last reply, if there is one
abbrev pub last_reply : List TimedExchange → Option Reply
last_reply [] = None
last_reply (a ∷ []) = Some a.reply
last_reply (a ∷ b ∷ more) = last_reply (b ∷ more)

-- that request was sent too, by a caller that was c, and the store replied to it
pub record HasAsked (shards capacity : ℕ) (c d : Caller) (request : Request) (old new : List TimedExchange) : Type 0 where
  pub asked : TimedExchange
  pub longer : new ≡ old ++ asked ∷ []
  pub request_is : asked.request ≡ request
  pub replied : HasReply shards capacity c d asked.request asked.reply asked.number

-- that request was sent, and no other
pub record HasAskedOnce (shards capacity : ℕ) (request : Request) (exchanges : List TimedExchange) : Type 0 where
  pub known : Caller
  pub asked : TimedExchange
  pub only : exchanges ≡ asked ∷ []
  pub request_is : asked.request ≡ request
  pub given : AreGiven shards capacity known 0 exchanges

-- ---- controllers

-- it reads one object: the first request of each round of a controller does
abbrev pub is_get : Request → Bool
is_get (Get key) = true
is_get _ = false

abbrev pub begins : Request → ℕ
begins request = if is_get request then 1 else 0

-- how many rounds were begun
abbrev pub rounds_in : List Exchange → ℕ
rounds_in [] = 0
rounds_in (e ∷ es) = begins e.0 + rounds_in es

-- A controller that began at the read of its set has sent and got this, and is then in this phase. So many rounds are
-- begun.
pub record IsStanding (shards capacity : ℕ) (known : Caller) (c : Reconciler) (rounds : ℕ) (phase : Phase) (exchanges : List TimedExchange) : Type 0 where
  pub given : AreGiven shards capacity known 0 exchanges
  pub follows : Follows c reading_set (exchanges_of exchanges)
  pub many : rounds_in (exchanges_of exchanges) ≡ rounds
  pub phase_is : phase_after c reading_set (exchanges_of exchanges) ≡ phase

-- It made so many rounds, from the read of its set on, and begins the next one.
pub record HasMadeRounds (shards capacity : ℕ) (c : Reconciler) (rounds : ℕ) (exchanges : List TimedExchange) : Type 0 where
  pub known : Caller
  pub phase : Phase
  pub stands : IsStanding shards capacity known c rounds phase exchanges
  pub ended : is_get (asks c phase) ≡ true

-- the reconciler of the controllers of a race
abbrev pub racer : Reconciler
racer = reconciler_with (key_parts StatefulSet set_namespace set_name) 10 (codes "2024-01-01T00:00:00Z")

-- ---- the kubelet

abbrev pub lists_pods : Request
lists_pods = request.List Pod set_namespace 0

abbrev pub asks_after : Reply → List Request
asks_after (Listed objects revision) = kubelet_requests_of objects
asks_after _ = []

-- What it sends if these requests are left of its turn, and what is then left. Each turn begins with a list of the
-- pods.
abbrev pub turns_to : List Request → Request
turns_to [] = lists_pods
turns_to (r ∷ left) = r

abbrev pub left_by : List Request → Reply → List Request
left_by [] reply = asks_after reply
left_by (r ∷ left) reply = left

abbrev pub left_after : List Request → List Exchange → List Request
left_after left [] = left
left_after left (e ∷ es) = left_after (left_by left e.1) es

abbrev pub Turns : List Request → List Exchange → Type 0
Turns left [] = ⊤
Turns left (e ∷ es) = (e.0 ≡ turns_to left) × Turns (left_by left e.1) es

-- a turn begins if nothing is left of the last one
abbrev pub begun_at : List Request → ℕ
begun_at [] = 1
begun_at (r ∷ left) = 0

-- how many turns were begun
abbrev pub turns_in : List Request → List Exchange → ℕ
turns_in left [] = 0
turns_in left (e ∷ es) = begun_at left + turns_in (left_by left e.1) es

-- this was sent and replied, by which so many turns are begun, and these requests are left of the last one
pub record IsTurning (shards capacity : ℕ) (known : Caller) (turns : ℕ) (left : List Request) (exchanges : List TimedExchange) : Type 0 where
  pub given : AreGiven shards capacity known 0 exchanges
  pub follows : Turns [] (exchanges_of exchanges)
  pub many : turns_in [] (exchanges_of exchanges) ≡ turns
  pub left_is : left_after [] (exchanges_of exchanges) ≡ left

-- how many turns it makes at most, for each round of a controller
abbrev pub most_turns : ℕ
most_turns = 64

-- It made whole turns, at least one, and no more than a race of so many rounds may have.
pub record HasTurned (shards capacity : ℕ) (rounds : ℕ) (exchanges : List TimedExchange) : Type 0 where
  pub known : Caller
  pub turns : ℕ
  pub turning : IsTurning shards capacity known turns [] exchanges
  pub some : 0 < turns
  pub few : 0 < rounds → turns ≤ rounds * most_turns

-- ---- the operator

-- the requests of the turns from n on
abbrev pub AsksFrom : (replicas n : ℕ) → List TimedExchange → Type 0
AsksFrom replicas n [] = ⊤
AsksFrom replicas n (a ∷ more) = (a.request ≡ operator_asks replicas n) × AsksFrom replicas (n + 1) more

-- it made so many turns, from the first one on
pub record IsOperating (shards capacity : ℕ) (known : Caller) (replicas turns : ℕ) (exchanges : List TimedExchange) : Type 0 where
  pub given : AreGiven shards capacity known 0 exchanges
  pub many : length exchanges ≡ turns
  pub asks : AsksFrom replicas 0 exchanges

-- the same, whatever it has seen in the end
pub record HasOperated (shards capacity : ℕ) (replicas turns : ℕ) (exchanges : List TimedExchange) : Type 0 where
  pub known : Caller
  pub operating : IsOperating shards capacity known replicas turns exchanges

-- ---- all of them

-- by its number: a controller, the kubelet, the caller that created the set, or the operator
pub record IsPartOf (shards capacity : ℕ) (spec : RaceSpec) (p : Part) : Type 0 where
  pub controller : p.caller < spec.controllers → HasMadeRounds shards capacity racer spec.rounds p.exchanges.items
  pub kubelet : p.caller ≡ spec.controllers → HasTurned shards capacity spec.rounds p.exchanges.items
  pub creator : p.caller ≡ spec.controllers + 1 → HasAskedOnce shards capacity (creates_set spec.replicas) p.exchanges.items
  pub operator : p.caller ≡ spec.controllers + 2 → HasOperated shards capacity spec.replicas spec.rounds p.exchanges.items

abbrev pub caller_of : Part → ℕ
caller_of p = p.caller

-- n, n + 1, n + 2 ..
abbrev pub CountFrom : ℕ → List ℕ → Type 0
CountFrom n [] = ⊤
CountFrom n (m ∷ more) = (m ≡ n) × CountFrom (n + 1) more

-- the operator's number, if there is one
abbrev pub operators_in : RaceSpec → List ℕ
operators_in spec = if spec.operator then (spec.controllers + 2) ∷ [] else []

-- One for each controller, one for the kubelet, one for the caller that created the set, and one for the operator if
-- there is one. Each has the number of its index, and is the part of that number.
pub record AreParts (shards capacity : ℕ) (spec : RaceSpec) (parts : List Part) : Type 0 where
  pub each : All (IsPartOf shards capacity spec) parts
  pub numbered : CountFrom 0 (map caller_of parts)
  pub many : length parts ≡ spec.controllers + 2 + length (operators_in spec)

-- ---- the race

-- The requests and replies of the callers of a store of so many shards and revisions are what was noted, each reply by
-- one stamp, with the number that the store gave; and the history is that of what was noted, for that capacity.
pub record IsRaceOf (shards revisions capacity : ℕ) (spec : RaceSpec) (history : RaceHistory) : Type 0 where
  pub parts : List Part
  pub asked : AreParts shards revisions spec parts
  pub log : Noted
  pub noted : ∥ IsNoted log ∥₁
  pub merged : IsMergeOf parts log
  pub judged : IsHistoryOf capacity spec log history

-- the race over a new store
abbrev pub IsRace : RaceSpec → RaceHistory → Type 0
IsRace spec history = IsRaceOf spec.shards race_capacity race_capacity spec history

-- Requests of callers in words, as `caller 1: create Pod/default/a: `; `status last` is one of the object that the
-- caller was last told.
use Rattle.std.specs.Prelude.{ℕ, List, [], ◌∷◌, ◌++◌, codes, decimal, map, Option, Some, None, option_and_then}
use Rattle.std.specs.List.{slice_get}
use Rattle.participants.specs.declared.caller.Ask.{Ask}
use Rattle.participants.specs.declared.caller.Asked.{Asked}
use Rattle.participants.specs.declared.caller.Asked.TheVariants as asked
use Rattle.participants.specs.declared.caller.Verb.{Verb}
use Rattle.participants.specs.declared.caller.Verb.TheVariants as verb
use Rattle.participants.specs.declared.participant.Participant.{Participant}
use Rattle.participants.specs.declared.participant.Participant.TheVariants.{Caller, Controller, Kubelet}
use Rattle.pictures.specs.Labels.{request_words}
use Rattle.race_lines.specs.declared.race.Sent.{Sent}

abbrev pub ask_of : Participant → (index : ℕ) → Option Ask
ask_of (Caller c) i = slice_get c.asks.items i
ask_of (Controller set rounds may_crash spares_reads) i = None
ask_of (Kubelet namespace turns may_crash) i = None

abbrev pub ask_in : List Participant → Sent → Option Ask
ask_in participants one = option_and_then (λ q. ask_of q one.index) (slice_get participants one.participant)

abbrev pub verb_words : Verb → List ℕ
verb_words verb.Get = codes "get last"
verb_words verb.Update = codes "update last"
verb_words verb.UpdateStatus = codes "status last"
verb_words (verb.Delete at) = codes "delete last"

abbrev pub request_of : Asked → List ℕ
request_of (asked.Request r) = request_words r
request_of (asked.Last v patch) = verb_words v

abbrev pub asked_words : Option Ask → List ℕ
asked_words None = []
asked_words (Some a) = request_of a.asked

abbrev pub sent_words : List Participant → Sent → List ℕ
sent_words participants one = (codes "caller " ++ (decimal one.caller ++ codes ": ")) ++ (asked_words (ask_in participants one) ++ codes ": ")

abbrev pub all_words : List Participant → List Sent → List (List ℕ)
all_words participants sent = map (sent_words participants) sent

-- What is looked at before and after a race: a list of each kind in each namespace that the race names. Nothing is created
-- elsewhere.
use Rattle.std.specs.Prelude.{ℕ, List, [], ◌∷◌, ◌++◌, map}
use Rattle.std.specs.BTreeSet.{insert_key}
use Rattle.std.specs.Cmp.Lexicographic.{slice_cmp}
use Rattle.std.specs.Ordering.{nat_cmp}
use Rattle.objects.specs.declared.kind.Kind.{Kind}
use Rattle.objects.specs.declared.kind.Kind.TheVariants.{StatefulSet, Pod, PersistentVolumeClaim, ControllerRevision}
use Rattle.plain_store.specs.Run.{after, replies}
use Rattle.plain_store.specs.Store.{opening}
use Rattle.requests.specs.declared.reply.Reply.{Reply}
use Rattle.requests.specs.declared.request.Request.{Request}
use Rattle.requests.specs.declared.request.Request.TheVariants as request
use Rattle.participants.specs.declared.caller.Ask.{Ask}
use Rattle.participants.specs.declared.caller.Asked.{Asked}
use Rattle.participants.specs.declared.caller.Asked.TheVariants as asked
use Rattle.participants.specs.declared.participant.Participant.{Participant}
use Rattle.participants.specs.declared.participant.Participant.TheVariants.{Caller, Controller, Kubelet}

-- ---- namespaces, each once

-- the name is put in byte order, unless it is there
abbrev pub with_name : (names : List (List ℕ)) → List ℕ → List (List ℕ)
with_name names name = insert_key (slice_cmp nat_cmp) names name

-- the namespace in which a request creates
abbrev pub with_created : (names : List (List ℕ)) → Request → List (List ℕ)
with_created names (request.Create d) = with_name names d.object.key.namespace
with_created names r = names

abbrev pub namespaces_by : (names : List (List ℕ)) → List Request → List (List ℕ)
namespaces_by names [] = names
namespaces_by names (r ∷ requests) = namespaces_by (with_created names r) requests

-- the namespaces in which a caller creates
abbrev pub with_sent : (names : List (List ℕ)) → Asked → List (List ℕ)
with_sent names (asked.Request r) = with_created names r
with_sent names (asked.Last verb patch) = names

abbrev pub sent_by : (names : List (List ℕ)) → List Ask → List (List ℕ)
sent_by names [] = names
sent_by names (a ∷ asks) = sent_by (with_sent names a.asked) asks

-- the namespaces of one who races
abbrev pub with_named : (names : List (List ℕ)) → Participant → List (List ℕ)
with_named names (Caller c) = sent_by names c.asks.items
with_named names (Controller set rounds may_crash spares_reads) = with_name names set.namespace
with_named names (Kubelet namespace turns may_crash) = with_name names namespace

abbrev pub named_by : (names : List (List ℕ)) → List Participant → List (List ℕ)
named_by names [] = names
named_by names (q ∷ participants) = named_by (with_named names q) participants

-- ---- lists

-- the newest one
abbrev pub list_of : Kind → (namespace : List ℕ) → Request
list_of kind namespace = request.List kind namespace 0

abbrev pub lists_in : (namespaces : List (List ℕ)) → List Request
lists_in names = ((map (list_of StatefulSet) names ++ map (list_of Pod) names) ++ map (list_of PersistentVolumeClaim) names) ++ map (list_of ControllerRevision) names

-- in the order in which the store keeps what is listed: by kind, then by namespace
abbrev pub looks_of : (beginning : List Request) → List Participant → List Request
looks_of beginning participants = lists_in (named_by (namespaces_by [] beginning) participants)

-- lists of all objects that a store has after these requests
abbrev pub objects_begun : (capacity : ℕ) → List Request → List Reply
objects_begun capacity beginning = replies (after (opening capacity) beginning) (looks_of beginning [])

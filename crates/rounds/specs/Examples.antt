-- Rounds worked out by hand: the requests of a controller, with replies that are given.
use Rattle.std.specs.Prelude.{ℕ, List, [], ◌∷◌, codes, None}
use Rattle.serde_json.specs.Data.{object, no_members}
use Rattle.objects.specs.declared.kind.Kind.{Kind}
use Rattle.objects.specs.declared.kind.Kind.TheVariants.{StatefulSet, Pod, PersistentVolumeClaim, ControllerRevision}
use Rattle.objects.specs.declared.object.Object.{Object}
use Rattle.requests.specs.declared.request.Request.{Request}
use Rattle.requests.specs.declared.request.Request.TheVariants as request
use Rattle.requests.specs.declared.request.Request.TheVariants.{Create, Get, Update, UpdateStatus, Delete, Compact}
use Rattle.requests.specs.declared.reply.Reply.{Reply}
use Rattle.requests.specs.declared.reply.Reply.TheVariants.{Created, Found, Listed, Removed, Updated, Refused}
use Rattle.requests.specs.declared.reply.Reason.TheVariants.{AlreadyExists, Conflict, NotFound}
use Rattle.rounds.specs.Drafts.{draft}
use Rattle.rounds.specs.Phase.{Phase, asks, reading_set, takes}
use Rattle.rounds.specs.Reconciler.{Reconciler}

-- the requests of a controller from a phase on, one for each reply
abbrev pub requests_over : Reconciler → Phase → List Reply → List Request
requests_over c phase [] = []
requests_over c phase (reply ∷ replies) = asks c phase ∷ requests_over c (takes c phase reply) replies

abbrev pub listed_kind : Kind → List ℕ
listed_kind StatefulSet = codes "sets"
listed_kind Pod = codes "pods"
listed_kind PersistentVolumeClaim = codes "claims"
listed_kind ControllerRevision = codes "revisions"

abbrev pub word : Request → List ℕ
word (Create d) = codes "create"
word (Get k) = codes "get"
word (request.List kind namespace exact) = listed_kind kind
word (Update d) = codes "update"
word (UpdateStatus d) = codes "status"
word (Delete k uid version at) = codes "delete"
word (Compact to) = codes "compact"

abbrev pub words : List Request → List (List ℕ)
words [] = []
words (r ∷ rs) = word r ∷ words rs

abbrev pub named : Kind → List ℕ → Object
named kind name = record {
  key = record { kind = kind; namespace = codes "default"; name = name };
  meta = record { uid = 1; revision = 1; generation = 1; deletion = None };
  body = object no_members;
}

abbrev pub web : Object
web = named StatefulSet (codes "web")

abbrev pub revision : Object
revision = named ControllerRevision (codes "web-x")

abbrev pub pod : Object
pod = named Pod (codes "web-0")

-- for a set of one replica: its revision, then its pod and its status, then its status
abbrev pub plan : List Object → List Object → List Request
plan [] pods = Create (draft revision) ∷ []
plan (r ∷ rs) [] = Create (draft pod) ∷ UpdateStatus (draft web) ∷ []
plan (r ∷ rs) (p ∷ ps) = UpdateStatus (draft web) ∷ []

-- the claims that were listed are deleted, whoever owns them
abbrev pub deletes : List Object → List Request
deletes [] = []
deletes (o ∷ os) = Delete o.key None None None ∷ deletes os

abbrev pub one_replica : Reconciler
one_replica = record { set = web.key; plan = λ set revisions pods claims. plan revisions pods; collect = λ claims owners at. deletes claims }

abbrev pub asked_over : List Reply → List (List ℕ)
asked_over replies = words (requests_over one_replica reading_set replies)

abbrev pub nothing : Reply
nothing = Listed [] 1

-- The revision is made; the claims and the four kinds of owners are listed; and in the next round the pod is made.
abbrev pub two_rounds : List Reply
two_rounds =
    Found web ∷ nothing ∷ nothing ∷ nothing ∷ Created revision
    ∷ nothing ∷ Listed (web ∷ []) 2 ∷ nothing ∷ Listed (revision ∷ []) 2 ∷ nothing
    ∷ Found web ∷ Listed (revision ∷ []) 2 ∷ nothing ∷ nothing ∷ Created pod ∷ []

-- After a crash the controller reads everything again, finds the pod, and writes the status alone.
abbrev pub after_a_crash : List Reply
after_a_crash = Found web ∷ Listed (revision ∷ []) 3 ∷ Listed (pod ∷ []) 3 ∷ nothing ∷ Updated web ∷ []

-- Another client was faster: the round begins again.
abbrev pub refused_action : List Reply
refused_action = Found web ∷ nothing ∷ nothing ∷ nothing ∷ Refused AlreadyExists ∷ Found web ∷ []

-- Without a set there is nothing to plan. A refused delete of a claim is ignored.
abbrev pub no_set : List Reply
no_set =
    Refused NotFound ∷ Listed (named PersistentVolumeClaim (codes "a") ∷ named PersistentVolumeClaim (codes "b") ∷ []) 4
    ∷ nothing ∷ nothing ∷ nothing ∷ nothing ∷ Refused Conflict ∷ Removed (named PersistentVolumeClaim (codes "b")) ∷ Refused NotFound ∷ []

-- Requests, replies, and what contracts see of callers, tickets and shards, as codes: by these a proof tells two values
-- of them apart.
use Rattle.std.specs.Prelude.{◌≡◌, ◌⊎◌, ℕ, ◌==◌, List, Option, refl, if◌then◌else◌}
use mathlib.Core.Logic.{inl, inr}
use Rattle.std.specs.Coded.{Coded, code_by, coded×, coded⊎, coded_list, coded_option, coded_ℕ}
use Rattle.objects.specs.declared.key.Key.{Key}
use Rattle.objects.specs.declared.kind.Kind.{Kind}
use Rattle.objects.specs.declared.object.Draft.{Draft}
use Rattle.objects.specs.declared.object.Object.{Object}
use Rattle.objects.specs.Key.{key_coded, kind_coded}
use Rattle.objects.specs.Object.{object_coded}
use Rattle.requests.specs.declared.reply.Reason.{Reason}
use Rattle.requests.specs.declared.reply.Reason.TheVariants.{NotFound, AlreadyExists, Conflict, Invalid, StoreFull, Expired, TooLarge}
use Rattle.requests.specs.declared.reply.Reply.{Reply}
use Rattle.requests.specs.declared.reply.Reply.TheVariants.{Created, Found, Listed, Updated, Unchanged, Marked, Removed, Compacted, Refused}
use Rattle.requests.specs.declared.request.Request.{Request}
use Rattle.requests.specs.declared.request.Request.TheVariants as request
use Rattle.requests.specs.declared.request.Request.TheVariants.{Create, Get, Update, UpdateStatus, Delete, Compact}
use Rattle.requests.specs.Same.{reason_index}
use Rattle.requests.specs.Change.{Change, change_coded}
use Rattle.versions.specs.Shard.{Shard, shard_coded}
use Rattle.line.specs.declared.view.Observation.{Observation}
use Rattle.store.specs.declared.writing.Writing.{Writing}
use Rattle.store.specs.Callers.{Caller}
use Rattle.store.specs.Rule.{Locked}
use Rattle.store.specs.Tickets.{Ticket}

abbrev pub Text : Type 0
Text = List ℕ

abbrev pub text_coded : Coded Text
text_coded = coded_list coded_ℕ

abbrev pub draft_coded : Coded Draft
draft_coded =
    code_by (Object × (Option Text × Option Text)) (coded× object_coded (coded× (coded_option text_coded) (coded_option text_coded)))
    (λ d. (d.object, (d.uid, d.version))) (λ p. record { object = p.0; uid = p.1.0; version = p.1.1 }) (λ _. refl)

abbrev pub Deletion : Type 0
Deletion = Key × (Option Text × (Option Text × Option Text))

abbrev pub deletion_coded : Coded Deletion
deletion_coded = coded× key_coded (coded× (coded_option text_coded) (coded× (coded_option text_coded) (coded_option text_coded)))

abbrev pub Listing : Type 0
Listing = Kind × (Text × ℕ)

abbrev pub RequestSum : Type 0
RequestSum = Draft ⊎ (Key ⊎ (Listing ⊎ (Draft ⊎ (Draft ⊎ (Deletion ⊎ ℕ)))))

abbrev pub summed : Request → RequestSum
summed (Create d) = inl d
summed (Get k) = inr (inl k)
summed (request.List kind namespace exact) = inr (inr (inl (kind, (namespace, exact))))
summed (Update d) = inr (inr (inr (inl d)))
summed (UpdateStatus d) = inr (inr (inr (inr (inl d))))
summed (Delete k uid version at) = inr (inr (inr (inr (inr (inl (k, (uid, (version, at))))))))
summed (Compact to) = inr (inr (inr (inr (inr (inr to)))))

abbrev pub unsummed : RequestSum → Request
unsummed (inl d) = Create d
unsummed (inr (inl k)) = Get k
unsummed (inr (inr (inl l))) = request.List l.0 l.1.0 l.1.1
unsummed (inr (inr (inr (inl d)))) = Update d
unsummed (inr (inr (inr (inr (inl d))))) = UpdateStatus d
unsummed (inr (inr (inr (inr (inr (inl d)))))) = Delete d.0 d.1.0 d.1.1.0 d.1.1.1
unsummed (inr (inr (inr (inr (inr (inr to)))))) = Compact to

pub back : (r : Request) → unsummed (summed r) ≡ r
back (Create d) = refl
back (Get k) = refl
back (request.List kind namespace exact) = refl
back (Update d) = refl
back (UpdateStatus d) = refl
back (Delete k uid version at) = refl
back (Compact to) = refl

abbrev pub request_coded : Coded Request
request_coded =
    code_by RequestSum
    (coded⊎ draft_coded (coded⊎ key_coded (coded⊎ (coded× kind_coded (coded× text_coded coded_ℕ)) (coded⊎ draft_coded (coded⊎ draft_coded (coded⊎ deletion_coded coded_ℕ))))))
    summed unsummed back

abbrev pub reason_at : ℕ → Reason
reason_at n =
    if n == 0 then NotFound else if n == 1 then AlreadyExists else if n == 2 then Conflict else if n == 3 then Invalid
    else if n == 4 then StoreFull else if n == 5 then Expired else TooLarge

pub reason_back : (r : Reason) → reason_at (reason_index r) ≡ r
reason_back NotFound = refl
reason_back AlreadyExists = refl
reason_back Conflict = refl
reason_back Invalid = refl
reason_back StoreFull = refl
reason_back Expired = refl
reason_back TooLarge = refl

abbrev pub reason_coded : Coded Reason
reason_coded = code_by ℕ coded_ℕ reason_index reason_at reason_back

abbrev pub ReplySum : Type 0
ReplySum = Object ⊎ (Object ⊎ ((List Object × ℕ) ⊎ (Object ⊎ (Object ⊎ (Object ⊎ (Object ⊎ (ℕ ⊎ Reason)))))))

abbrev pub reply_summed : Reply → ReplySum
reply_summed (Created o) = inl o
reply_summed (Found o) = inr (inl o)
reply_summed (Listed objects revision) = inr (inr (inl (objects, revision)))
reply_summed (Updated o) = inr (inr (inr (inl o)))
reply_summed (Unchanged o) = inr (inr (inr (inr (inl o))))
reply_summed (Marked o) = inr (inr (inr (inr (inr (inl o)))))
reply_summed (Removed o) = inr (inr (inr (inr (inr (inr (inl o))))))
reply_summed (Compacted n) = inr (inr (inr (inr (inr (inr (inr (inl n)))))))
reply_summed (Refused reason) = inr (inr (inr (inr (inr (inr (inr (inr reason)))))))

abbrev pub reply_unsummed : ReplySum → Reply
reply_unsummed (inl o) = Created o
reply_unsummed (inr (inl o)) = Found o
reply_unsummed (inr (inr (inl l))) = Listed l.0 l.1
reply_unsummed (inr (inr (inr (inl o)))) = Updated o
reply_unsummed (inr (inr (inr (inr (inl o))))) = Unchanged o
reply_unsummed (inr (inr (inr (inr (inr (inl o)))))) = Marked o
reply_unsummed (inr (inr (inr (inr (inr (inr (inl o))))))) = Removed o
reply_unsummed (inr (inr (inr (inr (inr (inr (inr (inl n)))))))) = Compacted n
reply_unsummed (inr (inr (inr (inr (inr (inr (inr (inr reason)))))))) = Refused reason

pub reply_back : (r : Reply) → reply_unsummed (reply_summed r) ≡ r
reply_back (Created o) = refl
reply_back (Found o) = refl
reply_back (Listed objects revision) = refl
reply_back (Updated o) = refl
reply_back (Unchanged o) = refl
reply_back (Marked o) = refl
reply_back (Removed o) = refl
reply_back (Compacted n) = refl
reply_back (Refused reason) = refl

abbrev pub reply_coded : Coded Reply
reply_coded =
    code_by ReplySum
    (coded⊎ object_coded (coded⊎ object_coded (coded⊎ (coded× (coded_list object_coded) coded_ℕ) (coded⊎ object_coded (coded⊎ object_coded (coded⊎ object_coded (coded⊎ object_coded (coded⊎ coded_ℕ reason_coded))))))))
    reply_summed reply_unsummed reply_back

-- ---- of this crate

abbrev pub writing_coded : Coded Writing
writing_coded =
    code_by (ℕ × (ℕ × (Request × Change))) (coded× coded_ℕ (coded× coded_ℕ (coded× request_coded change_coded)))
    (λ w. (w.by, (w.count, (w.request, w.change)))) (λ p. record { by = p.0; count = p.1.0; request = p.1.1.0; change = p.1.1.1 }) (λ _. refl)

abbrev pub Numbered : Type 0
Numbered = List (ℕ × Writing)

abbrev pub numbered_coded : Coded Numbered
numbered_coded = coded_list (coded× coded_ℕ writing_coded)

abbrev pub observation_coded : Coded (Observation Writing)
observation_coded =
    code_by (ℕ × (ℕ × (Numbered × ℕ))) (coded× coded_ℕ (coded× coded_ℕ (coded× numbered_coded coded_ℕ))) (λ c. (c.shard, (c.drawn, (c.notes, c.floor))))
    (λ p. record { shard = p.0; drawn = p.1.0; notes = p.1.1.0; floor = p.1.1.1 }) (λ _. refl)

abbrev pub caller_coded : Coded Caller
caller_coded =
    code_by (ℕ × (List Writing × (List Writing × (Numbered × (List (Observation Writing) × (ℕ × ℕ))))))
    (coded× coded_ℕ (coded× (coded_list writing_coded) (coded× (coded_list writing_coded) (coded× numbered_coded (coded× (coded_list observation_coded) (coded× coded_ℕ coded_ℕ))))))
    (λ c. (c.name, (c.seen, (c.reported, (c.own_notes, (c.observations, (c.loads, c.tries)))))))
    (λ p. record { name = p.0; seen = p.1.0; reported = p.1.1.0; own_notes = p.1.1.1.0; observations = p.1.1.1.1.0; loads = p.1.1.1.1.1.0; tries = p.1.1.1.1.1.1 }) (λ _. refl)

abbrev pub ticket_coded : Coded Ticket
ticket_coded =
    code_by (Request × (ℕ × (ℕ × (ℕ × Option Reply)))) (coded× request_coded (coded× coded_ℕ (coded× coded_ℕ (coded× coded_ℕ (coded_option reply_coded)))))
    (λ t. (t.request, (t.since, (t.saw, (t.place, t.reply))))) (λ p. record { request = p.0; since = p.1.0; saw = p.1.1.0; place = p.1.1.1.0; reply = p.1.1.1.1 }) (λ _. refl)

abbrev pub locked_coded : Coded Locked
locked_coded = code_by (ℕ × (Numbered × Shard)) (coded× coded_ℕ (coded× numbered_coded shard_coded)) (λ l. (l.index, (l.notes, l.shard))) (λ p. record { index = p.0; notes = p.1.0; shard = p.1.1 }) (λ _. refl)

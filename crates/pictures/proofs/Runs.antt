-- The lines of a run, one event after another.
use Rattle.std.proofs.Common.{◌≡◌, ℕ, suc, ◌+◌, ◌<◌, ◌≤◌, cond, List, [], ◌∷◌, ◌++◌, length, take, get_or, drop, Option, Some, None, refl, sym, ap, ◌∙◌, append_assoc, append-nil, arith, add-one}
use Rattle.std.proofs.Math.Seq.{drop-append_seam, take-suc}
use Rattle.requests.specs.declared.reply.Reply.{Reply}
use Rattle.interleavings.specs.declared.event.Event.{Event}
use Rattle.interleavings.specs.declared.event.Event.TheVariants as event
use Rattle.interleavings.specs.Step.{step}
use Rattle.interleavings.specs.Trace.{after, reply_in, trace}
use Rattle.interleavings.specs.World.{Size, World, opening}
use Rattle.interleavings.proofs.Facts.{facts_after}
use Rattle.history.specs.After.{IsAfter, IsReplyTo, ReplayParts}
use Rattle.history.specs.Named.{with_named}
use Rattle.interleavings.specs.Callers.{named_by}
use Rattle.history.specs.Replayed.{delivered_at}
use Rattle.history.proofs.Reached.{after_more}
use Rattle.plain_store.specs.Reached.{most_revisions}
use Rattle.pictures.specs.declared.snapshot.Snapshot.{Snapshot}
use Rattle.pictures.specs.Lines.{reply_line}
use Rattle.pictures.specs.Picture.{caller_phase_by, lines_between, lines_of, participants, snapshot_of, delivered, shown_lines}
use Rattle.pictures.specs.Shown.{participant, shows}
use Rattle.pictures.specs.declared.shown.Shown.{Shown}

-- the events up to one are those before it, and it
pub taken_more : (i : ℕ) (es : List Event) (e : Event) → i < length es → e ≡ get_or es i e → take (i + 1) es ≡ take i es ++ e ∷ []
taken_more i es e inside is = rw add-one (take-suc es i e inside ∙ ap (λ x. take i es ++ x ∷ []) (sym is))

pub participants_more : (shown : Shown) (z : Size) (es : List Event) (names : List ℕ) (w : World) (e : Event)
    → participants shown z names w (es ++ e ∷ [])
    ≡ with_named (participants shown z names w es) (participant shown e (caller_phase_by z (after z w es) (named_by e)))
participants_more shown z [] names w e = refl
participants_more shown z (x ∷ es) names w e =
    participants_more shown z es (with_named names (participant shown x (caller_phase_by z w (named_by x)))) (step z w x) e

pub lines_more : (shown : Shown) (z : Size) (es : List Event) (place : ℕ) (w : World) (e : Event)
    → lines_of shown z place w (es ++ e ∷ []) ≡ lines_of shown z place w es ++ lines_between shown z (place + length es) e (after z w es) (step z (after z w es) e)
lines_more shown z [] place w e =
    append-nil (lines_between shown z place e w (step z w e)) ∙ ap (λ p. lines_between shown z p e w (step z w e)) (omega arith)
lines_more shown z (x ∷ es) place w e =
    let first = lines_between shown z place x w (step z w x) in
    ap (λ l. first ++ l) (lines_more shown z es (suc place) (step z w x) e)
    ∙ sym (append_assoc first (lines_of shown z (suc place) (step z w x) es) _)
    ∙ ap (λ p. (first ++ lines_of shown z (suc place) (step z w x) es) ++ lines_between shown z p e (after z (step z w x) es) (step z (after z (step z w x) es) e)) (omega arith)

-- what the caller of a Reply gets is what the event adds to the trace
pub delivered_is : (z : Size) (events : List Event) (c : ℕ) (reply : Option Reply) → IsReplyTo z events (event.Reply c) reply
    → delivered (after z opening events) (step z (after z opening events) (event.Reply c)) ≡ reply
delivered_is z events c reply is =
    ap (λ (w : World). reply_in (drop (length (trace z events)) w.trace)) (sym (after_more z events opening (event.Reply c)))
    ∙ ap (λ l. reply_in (drop (length (trace z events)) l)) is ∙ by reply
  where
    by : (r : Option Reply) → reply_in (drop (length (trace z events)) (trace z events ++ delivered_at (length events) c r)) ≡ r
    by None = ap reply_in (drop-append_seam (trace z events) [])
    by (Some r) = ap reply_in (drop-append_seam (trace z events) (delivered_at (length events) c (Some r)))

pub lines_delivered : (shown : Shown) (z : Size) (events : List Event) (e : Event) (reply : Option Reply) (shards place : ℕ) (before now : Snapshot) → IsReplyTo z events e reply
    → shown_lines shown shards place e before now reply ≡ shown_lines shown shards place e before now (delivered (after z opening events) (step z (after z opening events) e))
lines_delivered shown z events (event.Reply c) reply shards place before now is =
    ap (λ r. cond (shows shown (event.Reply c) before.standing r) (reply_line place c r) []) (sym (delivered_is z events c reply is))
lines_delivered shown z events (event.Call c r) reply shards place before now is = refl
lines_delivered shown z events (event.Check c) reply shards place before now is = refl
lines_delivered shown z events (event.Reserve c) reply shards place before now is = refl
lines_delivered shown z events (event.Publish c) reply shards place before now is = refl
lines_delivered shown z events event.Raise reply shards place before now is = refl
lines_delivered shown z events (event.Read c) reply shards place before now is = refl
lines_delivered shown z events (event.ReadAt c) reply shards place before now is = refl
lines_delivered shown z events (event.Compact c) reply shards place before now is = refl
lines_delivered shown z events (event.Part c) reply shards place before now is = refl
lines_delivered shown z events (event.Crash c) reply shards place before now is = refl

-- the frontier of a replay is not above the most numbers that there are
pub frontier_small : (z : Size) (events : List Event) (replay : ReplayParts) → IsAfter z events replay → (after z opening events).frontier ≤ most_revisions
unfolding IsAfter
frontier_small z events replay is =
    let run = is.0 in
    let facts = facts_after z run.some events in
    let within = facts.within in
    let room = facts.room in
    let small = run.shows.small in
    omega (arith, within, room, small)

-- what was put for an event are its lines between two worlds
pub step_lines : (shown : Shown) (z : Size) (events : List Event) (e : Event) (shards place : ℕ) (caller : Option ℕ) (before now : Snapshot) (reply : Option Reply) (old new : List ℕ)
    → z.shards ≡ shards → place ≡ length events → caller ≡ named_by e → before ≡ snapshot_of z (after z opening events) caller
    → now ≡ snapshot_of z (after z opening (events ++ e ∷ [])) caller → IsReplyTo z events e reply → new ≡ old ++ shown_lines shown shards place e before now reply
    → new ≡ old ++ lines_between shown z (length events) e (after z opening events) (step z (after z opening events) e)
step_lines shown z events e shards place caller before now reply old new many at who before_is now_is is put =
    let w : World = after z opening events in
    put ∙ ap (λ n. old ++ shown_lines shown n place e before now reply) (sym many)
    ∙ ap (λ n. old ++ shown_lines shown z.shards n e before now reply) at
    ∙ ap (λ m. old ++ shown_lines shown z.shards (length events) e m now reply) (before_is ∙ ap (snapshot_of z w) who)
    ∙ ap (λ m. old ++ shown_lines shown z.shards (length events) e (snapshot_of z w (named_by e)) m reply)
    (now_is ∙ ap (λ v. snapshot_of z v caller) (after_more z events opening e) ∙ ap (snapshot_of z (step z w e)) who)
    ∙ ap (λ t. old ++ t) (lines_delivered shown z events e reply z.shards (length events) (snapshot_of z w (named_by e)) (snapshot_of z (step z w e) (named_by e)) is)

-- the text of one event more
pub text_next : (shown : Shown) (z : Size) (i : ℕ) (es : List Event) (e : Event) (head text new : List ℕ) → i < length es → e ≡ get_or es i e
    → text ≡ head ++ lines_of shown z 0 opening (take i es)
    → new ≡ text ++ lines_between shown z (length (take i es)) e (after z opening (take i es)) (step z (after z opening (take i es)) e)
    → new ≡ head ++ lines_of shown z 0 opening (take (i + 1) es)
text_next shown z i es e head text new inside is so_far next =
    let done = take i es in
    let line : ℕ → List ℕ = λ p. lines_between shown z p e (after z opening done) (step z (after z opening done) e) in
    next ∙ ap (λ t. t ++ line (length done)) so_far ∙ append_assoc head (lines_of shown z 0 opening done) (line (length done))
    ∙ ap (λ p. head ++ (lines_of shown z 0 opening done ++ line p)) (omega arith)
    ∙ ap (λ t. head ++ t) (sym (lines_more shown z done 0 opening e))
    ∙ ap (λ xs. head ++ lines_of shown z 0 opening xs) (sym (taken_more i es e inside is))

-- the state of an event's caller before it, as a snapshot has it
pub phase_before : (z : Size) (events : List Event) (e : Event) (caller : Option ℕ) (before : Snapshot) → caller ≡ named_by e
    → before ≡ snapshot_of z (after z opening events) caller → before.standing ≡ caller_phase_by z (after z opening events) (named_by e)
phase_before z events e caller before who is = ap (λ (m : Snapshot). m.standing) (is ∙ ap (snapshot_of z (after z opening events)) who)

-- who takes part up to one event more
pub named_next : (shown : Shown) (z : Size) (i : ℕ) (es : List Event) (e : Event) (names new : List ℕ) → i < length es → e ≡ get_or es i e
    → names ≡ participants shown z [] opening (take i es)
    → new ≡ with_named names (participant shown e (caller_phase_by z (after z opening (take i es)) (named_by e)))
    → new ≡ participants shown z [] opening (take (i + 1) es)
named_next shown z i es e names new inside is so_far next =
    let done = take i es in
    next ∙ ap (λ names. with_named names (participant shown e (caller_phase_by z (after z opening done) (named_by e)))) so_far
    ∙ sym (participants_more shown z done [] opening e) ∙ ap (participants shown z [] opening) (sym (taken_more i es e inside is))

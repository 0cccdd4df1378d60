-- The lines of a run, one event after another.
use Rattle.std.proofs.Common.{◌≡◌, ℕ, Bool, true, false, is_none, is_some, if◌then◌else◌, suc, ◌+◌, ◌<◌, ◌≤◌, List, [], ◌∷◌, ◌++◌, length, take, get_or, drop, Option, Some, None, refl, sym, ap, ap₂, ◌∙◌, append_assoc, append-nil, length-append, arith}
use Rattle.std.specs.List.{concat}
use Rattle.std.proofs.lemmas.List.{take-append-drop}
use Rattle.std.proofs.Math.Seq.{drop-append_seam}
use Rattle.requests.specs.declared.reply.Reply.{Reply}
use Rattle.interleavings.specs.declared.event.Event.{Event}
use Rattle.interleavings.specs.declared.event.Event.TheVariants as event
use Rattle.interleavings.specs.Step.{step}
use Rattle.interleavings.specs.Trace.{after, reply_in, trace}
use Rattle.interleavings.specs.World.{Size, World, opening}
use Rattle.history.specs.After.{IsReplyTo}
use Rattle.history.specs.Named.{callers, named}
use Rattle.history.specs.NextStep.{can_rise, goes_on, next_step}
use Rattle.interleavings.specs.Callers.{named_by}
use Rattle.history.specs.Replayed.{delivered_at}
use Rattle.history.specs.declared.caller_phase.FirstStep.TheVariants.{Write}
use Rattle.history.specs.declared.caller_phase.CallerPhase.{CallerPhase}
use Rattle.history.specs.declared.caller_phase.CallerPhase.TheVariants as standing
use Rattle.history.proofs.Naming.{more_named, named_append}
use Rattle.history.proofs.Reached.{after_more}
use Rattle.pictures.specs.Picture.{delivered, caller_phase_by}
use Rattle.pictures.proofs.Runs.{taken_more}
use Rattle.traces.specs.declared.run_state.RunState.{RunState}
use Rattle.traces.specs.Enabled.{is_held, run_state_of}
use Rattle.traces.specs.Lines.{event_line}
use Rattle.traces.specs.Traced.{line_between, texts_of}

-- ---- the reply that a line shows
-- what the caller of a Reply gets is what the event adds to the trace
delivered_is : (z : Size) (events : List Event) (c : ℕ) (reply : Option Reply) → IsReplyTo z events (event.Reply c) reply
    → delivered (after z opening events) (step z (after z opening events) (event.Reply c)) ≡ reply
delivered_is z events c reply is =
    ap (λ (w : World). reply_in (drop (length (trace z events)) w.trace)) (sym (after_more z events opening (event.Reply c)))
    ∙ ap (λ l. reply_in (drop (length (trace z events)) l)) is ∙ by reply
  where
    by : (r : Option Reply) → reply_in (drop (length (trace z events)) (trace z events ++ delivered_at (length events) c r)) ≡ r
    by None = ap reply_in (drop-append_seam (trace z events) [])
    by (Some r) = ap reply_in (drop-append_seam (trace z events) (delivered_at (length events) c (Some r)))

line_delivered : (role : ℕ → List ℕ) (z : Size) (events : List Event) (e : Event) (reply : Option Reply) (place : ℕ) (before now : RunState) → IsReplyTo z events e reply
    → event_line role place e before now reply ≡ event_line role place e before now (delivered (after z opening events) (step z (after z opening events) e))
line_delivered role z events (event.Reply c) reply place before now is =
    ap (event_line role place (event.Reply c) before now) (sym (delivered_is z events c reply is))
line_delivered role z events (event.Call c r) reply place before now is = refl
line_delivered role z events (event.Check c) reply place before now is = refl
line_delivered role z events (event.Reserve c) reply place before now is = refl
line_delivered role z events (event.Publish c) reply place before now is = refl
line_delivered role z events event.Raise reply place before now is = refl
line_delivered role z events (event.Read c) reply place before now is = refl
line_delivered role z events (event.ReadAt c) reply place before now is = refl
line_delivered role z events (event.Compact c) reply place before now is = refl
line_delivered role z events (event.Part c) reply place before now is = refl
line_delivered role z events (event.Crash c) reply place before now is = refl

-- what was put for an event is its line between two worlds
pub step_line : (role : ℕ → List ℕ) (z : Size) (events : List Event) (e : Event) (place : ℕ) (caller : Option ℕ) (before now : RunState) (reply : Option Reply) (old new : List ℕ)
    → place ≡ length events → caller ≡ named_by e → before ≡ run_state_of z (after z opening events) caller
    → now ≡ run_state_of z (after z opening (events ++ e ∷ [])) caller → IsReplyTo z events e reply → new ≡ old ++ event_line role place e before now reply
    → new ≡ old ++ line_between role z (length events) e (after z opening events) (step z (after z opening events) e)
step_line role z events e place caller before now reply old new at who before_is now_is is put =
    let w : World = after z opening events in
    put ∙ ap (λ n. old ++ event_line role n e before now reply) at
    ∙ ap (λ m. old ++ event_line role (length events) e m now reply) (before_is ∙ ap (run_state_of z w) who)
    ∙ ap (λ m. old ++ event_line role (length events) e (run_state_of z w (named_by e)) m reply)
    (now_is ∙ ap (λ v. run_state_of z v caller) (after_more z events opening e) ∙ ap (run_state_of z (step z w e)) who)
    ∙ ap (λ t. old ++ t) (line_delivered role z events e reply (length events) (run_state_of z w (named_by e)) (run_state_of z (step z w e) (named_by e)) is)

-- ---- one text after another
concat_more : (texts : List (List ℕ)) (text : List ℕ) → concat (texts ++ text ∷ []) ≡ concat texts ++ text
concat_more [] text = append-nil text
concat_more (t ∷ texts) text = ap (λ l. t ++ l) (concat_more texts text) ∙ sym (append_assoc t (concat texts) text)

pub after_append : (z : Size) (es fs : List Event) (w : World) → after z w (es ++ fs) ≡ after z (after z w es) fs
after_append z [] fs w = refl
after_append z (e ∷ es) fs w = after_append z es fs (step z w e)

module _ (role note : ℕ → List ℕ) (z : Size) where
  -- the text of an event at an index and in a world
  abbrev text_at : Event → ℕ → World → List ℕ
  text_at e place w = line_between role z place e w (step z w e) ++ note place

  texts_more : (es : List Event) (place : ℕ) (w : World) (e : Event)
      → texts_of role note z place w (es ++ e ∷ []) ≡ texts_of role note z place w es ++ text_at e (place + length es) (after z w es) ∷ []
  texts_more [] place w e = ap (λ p. text_at e p w ∷ []) (omega arith)
  texts_more (x ∷ es) place w e =
      ap (λ l. text_at x place w ∷ l)
      (texts_more es (suc place) (step z w x) e
      ∙ ap (λ p. texts_of role note z (suc place) (step z w x) es ++ text_at e p (after z (step z w x) es) ∷ []) (omega arith))

  pub texts_next : (before : List Event) (i : ℕ) (es : List Event) (e : Event) (old text new : List ℕ) → i < length es → e ≡ get_or es i e
      → text ≡ old ++ concat (texts_of role note z (length before) (after z opening before) (take i es))
      → new ≡ text ++ text_at e (length (before ++ take i es)) (after z opening (before ++ take i es))
      → new ≡ old ++ concat (texts_of role note z (length before) (after z opening before) (take (i + 1) es))
  texts_next before i es e old text new inside is so_far next =
      let done : List Event = take i es in
      let w : World = after z opening before in
      let texts : List (List ℕ) = texts_of role note z (length before) w done in
      next ∙ ap (λ t. t ++ text_at e (length (before ++ done)) (after z opening (before ++ done))) so_far
      ∙ append_assoc old (concat texts) (text_at e (length (before ++ done)) (after z opening (before ++ done)))
      ∙ ap₂ (λ p v. old ++ (concat texts ++ text_at e p v)) (length-append before done) (after_append z before done opening)
      ∙ ap (λ t. old ++ t) (sym (concat_more texts (text_at e (length before + length done) (after z w done))))
      ∙ ap (λ l. old ++ concat l) (sym (texts_more done (length before) w e))
      ∙ ap (λ xs. old ++ concat (texts_of role note z (length before) w xs)) (sym (taken_more i es e inside is))

-- ---- the events that were applied
-- the events up to one, after others
pub taken_next : (before : List Event) (i : ℕ) (es : List Event) (e : Event) → i < length es → e ≡ get_or es i e
    → (before ++ take i es) ++ e ∷ [] ≡ before ++ take (i + 1) es
taken_next before i es e inside is = append_assoc before (take i es) (e ∷ []) ∙ ap (λ xs. before ++ xs) (sym (taken_more i es e inside is))

-- the first events name no more callers than all
pub callers_within : (xs ys : List Event) → callers xs ≤ callers (xs ++ ys)
callers_within xs ys =
    let more = more_named ys (named [] xs) in
    let all = ap length (named_append xs ys []) in
    omega (arith, more, all)

pub callers_so_far : (before : List Event) (i : ℕ) (es : List Event) (e : Event) → i < length es → e ≡ get_or es i e
    → callers ((before ++ take i es) ++ e ∷ []) ≤ callers (before ++ es)
callers_so_far before i es e inside is =
    let fewer = callers_within (before ++ take (i + 1) es) (drop (i + 1) es) in
    let first = ap callers (taken_next before i es e inside is) in
    let all = ap callers (append_assoc before (take (i + 1) es) (drop (i + 1) es) ∙ ap (λ xs. before ++ xs) (take-append-drop (i + 1) es)) in
    omega (arith, fewer, first, all)

pub callers_first : (n : ℕ) (es : List Event) → callers (take n es) ≤ callers es
callers_first n es =
    let fewer = callers_within (take n es) (drop n es) in
    let all = ap callers (take-append-drop n es) in
    omega (arith, fewer, all)

-- ---- whether a shard is held
none_where : (held : Bool) (e : Event) → is_none (if held then None else Some e) ≡ held
none_where true e = refl
none_where false e = refl

-- a write that is to be checked has no next step exactly if its shard is held
pub held_is : (z : Size) (w : World) (c shard : ℕ) (s : CallerPhase) (waits : Bool) → s ≡ standing.Called (Write shard) → s ≡ caller_phase_by z w (Some c)
    → waits ≡ is_none (next_step z w c) → waits ≡ is_held w s
held_is z w c shard s waits is stands none =
    none ∙ ap (λ p. is_none (goes_on (λ i. is_some (w.holder i)) w.frontier (can_rise w) c p)) (sym stands ∙ is)
    ∙ none_where (is_some (w.holder shard)) (event.Check c) ∙ ap (is_held w) (sym is)

-- Each caller's last request, one event after another.
use Rattle.std.proofs.Common.{◌≡◌, ℕ, suc, Bool, true, false, ◌+◌, ◌<◌, ◌==◌, List, [], ◌∷◌, ◌++◌, length, get_or, take, drop, Option, Some, cond, refl, sym, ap, ap₂, ◌∙◌, append_assoc, arith}
use Rattle.std.specs.Prelude.{option_map}
use Rattle.std.specs.Borrow.{Bor}
use Rattle.std.specs.BTreeMap.{BTreeMap, Updates, get}
use Rattle.std.specs.Ordering.{is_eq, nat_cmp}
use Rattle.std.proofs.lemmas.Bool.Decides.{nat_tests}
use Rattle.std.proofs.lemmas.List.{drop_more, length-take-le}
use Rattle.requests.specs.declared.request.Request.{Request}
use Rattle.requests.specs.declared.reply.Reply.{Reply}
use Rattle.interleavings.specs.declared.event.Event.{Event}
use Rattle.interleavings.specs.declared.event.Event.TheVariants as event
use Rattle.interleavings.specs.Callers.{named_by}
use Rattle.interleavings.specs.Step.{step}
use Rattle.interleavings.specs.Trace.{after}
use Rattle.interleavings.specs.World.{Size, World, opening}
use Rattle.history.specs.After.{IsReplyTo}
use Rattle.history.specs.declared.caller_phase.CallerPhase.{CallerPhase}
use Rattle.history.proofs.Reached.{after_more}
use Rattle.pictures.specs.Asked.{asked_in}
use Rattle.pictures.specs.Picture.{caller_phase_by, delivered}
use Rattle.pictures.specs.Story.{LastAsked, asked_after, event_line, line_between, lines_of, reply_line}
use Rattle.pictures.proofs.Runs.{delivered_is, taken_more}

tied : (m n : ℕ) → is_eq (nat_cmp m n) ≡ (m == n)
tied m n = grind (arith, nat_tests)

chosen : (b : Bool) (r : Bor Request) (o : Option (Bor Request)) → option_map (λ (x : Bor Request). x.now) (cond b (Some r) o) ≡ cond b (Some r.now) (option_map (λ (x : Bor Request). x.now) o)
chosen true r o = refl
chosen false r o = refl

-- a map in which a caller's request was put
pub noted : (m n : BTreeMap ℕ (Bor Request)) (caller : ℕ) (r : Bor Request) → Updates nat_cmp m n caller (Some r)
    → (c : ℕ) → asked_in n c ≡ cond (caller == c) (Some r.now) (asked_in m c)
noted m n caller r updates c =
    ap (option_map (λ (x : Bor Request). x.now)) (updates.0 c ∙ ap (λ b. cond b (Some r) (get nat_cmp m c)) (tied caller c))
    ∙ chosen (caller == c) r (get nat_cmp m c)

-- the line of an event does not change if the reply is read from the trace
line_delivered : (role : ℕ → List ℕ) (asked : LastAsked) (z : Size) (events : List Event) (e : Event) (reply : Option Reply) (place : ℕ) (before : CallerPhase) → IsReplyTo z events e reply
    → event_line role asked place e before reply ≡ event_line role asked place e before (delivered (after z opening events) (step z (after z opening events) e))
line_delivered role asked z events (event.Reply c) reply place before is = ap (reply_line role place c (asked c)) (sym (delivered_is z events c reply is))
line_delivered role asked z events (event.Call c r) reply place before is = refl
line_delivered role asked z events (event.Check c) reply place before is = refl
line_delivered role asked z events (event.Reserve c) reply place before is = refl
line_delivered role asked z events (event.Publish c) reply place before is = refl
line_delivered role asked z events event.Raise reply place before is = refl
line_delivered role asked z events (event.Read c) reply place before is = refl
line_delivered role asked z events (event.ReadAt c) reply place before is = refl
line_delivered role asked z events (event.Compact c) reply place before is = refl
line_delivered role asked z events (event.Part c) reply place before is = refl
line_delivered role asked z events (event.Crash c) reply place before is = refl

-- what was put for an event is its line between two worlds
pub told_between : (role : ℕ → List ℕ) (asked : LastAsked) (z : Size) (events : List Event) (e : Event) (place : ℕ) (before : CallerPhase) (reply : Option Reply) (old new : List ℕ)
    → place ≡ length events → before ≡ caller_phase_by z (after z opening events) (named_by e) → IsReplyTo z events e reply → new ≡ old ++ event_line role asked place e before reply
    → new ≡ old ++ line_between role asked z (length events) e (after z opening events) (step z (after z opening events) e)
told_between role asked z events e place before reply old new at was is put =
    put ∙ ap (λ n. old ++ event_line role asked n e before reply) at
    ∙ ap (λ (p : CallerPhase). old ++ event_line role asked (length events) e p reply) was
    ∙ ap (λ t. old ++ t) (line_delivered role asked z events e reply (length events) (caller_phase_by z (after z opening events) (named_by e)) is)

-- the text of one event more
pub told_more : (role : ℕ → List ℕ) (z : Size) (es : List Event) (i : ℕ) (e : Event) (asked next : LastAsked) (old new whole : List ℕ) → i < length es → e ≡ get_or es i e
    → new ≡ old ++ line_between role asked z (length (take i es)) e (after z opening (take i es)) (step z (after z opening (take i es)) e)
    → ((c : ℕ) → next c ≡ asked_after asked e (caller_phase_by z (after z opening (take i es)) (named_by e)) c)
    → old ++ lines_of role asked z i (after z opening (take i es)) (drop i es) ≡ whole
    → new ++ lines_of role next z (i + 1) (after z opening (take (i + 1) es)) (drop (i + 1) es) ≡ whole
told_more role z es i e asked next old new whole inside is told same so_far =
    let done = take i es in
    let w : World = after z opening done in
    let rest = drop (i + 1) es in
    let later = asked_after asked e (caller_phase_by z w (named_by e)) in
    let at : length done ≡ i = length-take-le i es (omega (arith, inside)) in
    let world : after z opening (take (i + 1) es) ≡ step z w e = ap (after z opening) (taken_more i es e inside is) ∙ after_more z done opening e in
    let more : i + 1 ≡ suc i = omega arith in
    ap₂ (λ t f. t ++ lines_of role f z (i + 1) (after z opening (take (i + 1) es)) rest) told (λ j c. same c j)
    ∙ ap₂ (λ p v. (old ++ line_between role asked z (length done) e w (step z w e)) ++ lines_of role later z p v rest) more world
    ∙ append_assoc old (line_between role asked z (length done) e w (step z w e)) (lines_of role later z (suc i) (step z w e) rest)
    ∙ ap (λ p. old ++ (line_between role asked z p e w (step z w e) ++ lines_of role later z (suc i) (step z w e) rest)) at
    ∙ ap (λ xs. old ++ lines_of role asked z i w xs) (ap (λ x. x ∷ rest) is ∙ sym (drop_more es i e inside))
    ∙ so_far

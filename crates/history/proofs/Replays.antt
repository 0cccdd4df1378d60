-- What a replay promises, by its machine.
use Rattle.std.proofs.Common.{◌≡◌, ℕ, ◌+◌, ◌<◌, ◌≤◌, ◌↔◌, Bool, true, false, IsTrue, List, [], ◌∷◌, ◌++◌, Option, refl, sym, ap, ◌∙◌, subst, length, arith}
use Rattle.requests.specs.declared.reply.Reply.{Reply}
use Rattle.interleavings.specs.declared.event.Event.{Event}
use Rattle.interleavings.specs.declared.event.Event.TheVariants as event
use Rattle.history.specs.declared.machine.Machine.{Machine}
use Rattle.history.specs.declared.phase.Phase.{Phase as CodePhase}
use Rattle.history.specs.declared.phase.Phase.TheVariants as code
use Rattle.interleavings.specs.declared.trace.Item.{Item}
use Rattle.history.specs.After.{IsAfter, IsReplyTo, ReplayParts}
use Rattle.history.specs.Named.{named, with_named}
use Rattle.history.specs.declared.names.NamedCallers.{NamedCallers}
use Rattle.interleavings.specs.Order.{order}
use Rattle.interleavings.specs.Linearization.{IsLegal}
use Rattle.interleavings.specs.Trace.{trace}
use Rattle.interleavings.specs.World.{Phase, Idle, Size}
use Rattle.interleavings.specs.Callers.{named_by}
use Rattle.history.specs.Replayed.{IsAnswer, IsRun, IsShown, Stays, Steps, is_idle, delivered_at}
use Rattle.interleavings.proofs.Runs.{orders_are_legal}
use Rattle.history.proofs.Naming.{named_more}
use Rattle.history.proofs.Reached.{run_stays, run_steps}

abbrev parts : Machine → NamedCallers → ReplayParts
parts m n = record { machine = m; names = n }

pub names_next : (es : List Event) (e : Event) (n n' : NamedCallers) → n.callers.keys ≡ named [] es → n'.callers.keys ≡ with_named n.callers.keys (named_by e) → n'.callers.keys ≡ named [] (es ++ e ∷ [])
names_next es e n n' were noted = noted ∙ ap (λ ks. with_named ks (named_by e)) were ∙ sym (named_more es [] e)

-- one event more
pub after_next : (z : Size) (es : List Event) (e : Event) (m m' : Machine) (n n' : NamedCallers) → IsAfter z es (parts m n) → Steps e m m' → m'.now_at ≡ m.now_at + 1 → n'.callers.keys ≡ with_named n.callers.keys (named_by e) → length n'.callers.keys ≤ 4096
    → IsAfter z (es ++ e ∷ []) (parts m' n')
unfolding IsAfter
after_next z es e m m' n n' after steps place noted few = (run_steps z es e m m' after.0 steps place, (names_next es e n n' after.1.0 noted, few))

-- the event was refused
pub after_still : (z : Size) (es : List Event) (m m' : Machine) (n n' : NamedCallers) → IsAfter z es (parts m n) → Stays m m' → n'.callers.keys ≡ n.callers.keys → IsAfter z es (parts m' n')
unfolding IsAfter
after_still z es m m' n n' after stays same =
    let few = after.1.1 in
    let long = ap length same in
    (run_stays z es m m' after.0 stays, (same ∙ after.1.0, omega (arith, long, few)))

pub answer_is_reply : (z : Size) (es : List Event) (m m' : Machine) (e : Event) (delivered : Option Reply) → IsRun z es m → IsRun z (es ++ e ∷ []) m' → IsAnswer e m m' delivered → IsReplyTo z es e delivered
answer_is_reply z es m m' (event.Call c r) delivered run next answer = answer
answer_is_reply z es m m' (event.Check c) delivered run next answer = answer
answer_is_reply z es m m' (event.Reserve c) delivered run next answer = answer
answer_is_reply z es m m' (event.Publish c) delivered run next answer = answer
answer_is_reply z es m m' event.Raise delivered run next answer = answer
answer_is_reply z es m m' (event.Read c) delivered run next answer = answer
answer_is_reply z es m m' (event.ReadAt c) delivered run next answer = answer
answer_is_reply z es m m' (event.Compact c) delivered run next answer = answer
answer_is_reply z es m m' (event.Part c) delivered run next answer = answer
answer_is_reply z es m m' (event.Reply c) delivered run next answer =
    sym next.shows.items ∙ answer ∙ ap (λ l. l ++ delivered_at m.now_at c delivered) run.shows.items ∙ ap (λ n. trace z es ++ delivered_at n c delivered) run.count
answer_is_reply z es m m' (event.Crash c) delivered run next answer = answer

idle_shown : (p : CodePhase) (ph : Phase) → IsShown p ph → is_idle p ≡ true → ph ≡ Idle
idle_shown code.Idle ph h e = h
idle_shown _ ph h e = absurd cc

shown_idle : (p : CodePhase) (ph : Phase) → IsShown p ph → ph ≡ Idle → is_idle p ≡ true
shown_idle code.Idle ph h e = refl
shown_idle (code.Reading n p r left) ph h e = let x = h.1.1.0 in absurd cc
shown_idle _ ph h e = absurd cc

pub idle_tells : (b : Bool) (p : CodePhase) (ph : Phase) → b ≡ is_idle p → IsShown p ph → IsTrue b ↔ (ph ≡ Idle)
idle_tells true p ph is h = (λ t. idle_shown p ph h (sym is), λ e. refl)
idle_tells false p ph is h = (λ t. absurd cc, λ e. let x = is ∙ shown_idle p ph h e in absurd cc)

pub run_legal : (z : Size) (es : List Event) (items : List Item) (places : List ℕ) → 0 < z.shards → items ≡ trace z es → places ≡ order z es → IsLegal z.capacity items places
run_legal z es items places some is are = subst (λ l. IsLegal z.capacity l places) (sym is) (subst (λ o. IsLegal z.capacity (trace z es) o) (sym are) (orders_are_legal z es some))

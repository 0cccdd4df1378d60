-- A caller's phase after an event: of another caller, of one that moves, and of one that gets its reply.
use Rattle.std.proofs.Common.{◌≡◌, ◌≢◌, ◌⊎◌, inl, inr, ℕ, Bool, true, false, List, [], ◌∷◌, ◌++◌, length, Option, Some, None, refl, sym, ap, ◌∙◌, arith, length-append}
use Rattle.std.specs.Prelude.{nat_le, nat_lt}
use Rattle.objects.specs.declared.key.Key.{Key}
use Rattle.requests.specs.declared.request.Request.{Request}
use Rattle.requests.specs.declared.reply.Reply.{Reply}
use Rattle.requests.specs.declared.reply.Reason.{Reason}
use Rattle.requests.specs.declared.verdict.Verdict.{Verdict}
use Rattle.requests.specs.declared.verdict.Verdict.TheVariants.{Refuse, Same, Write}
use Rattle.requests.specs.Verdict.{verdict}
use Rattle.plain_store.specs.Route.{Route, compacts, gets, lists, lists_at, route, writes}
use Rattle.plain_store.specs.Store as store
use Rattle.plain_store.specs.Store.{denied}
use Rattle.interleavings.specs.declared.event.Event.{Event}
use Rattle.interleavings.specs.declared.event.Event.TheVariants.{Call, Check, Reserve, Publish, Raise, Read, ReadAt, Compact, Part, Crash}
use Rattle.interleavings.specs.declared.event.Event.TheVariants as event
use Rattle.interleavings.specs.declared.trace.Item.{Item}
use Rattle.interleavings.specs.Log.{Writing, value}
use Rattle.interleavings.specs.Step.{begun_unless, called, checked, checked_by, checked_in, compacted, compacted_by, crashed, drawn_by, floored, with_reply, with_reply_if, judged, only, part, published, raised, read, read_at, read_at_by, read_by, replied, reserved, step}
use Rattle.interleavings.specs.Trace.{after, trace}
use Rattle.interleavings.specs.World.{Phase, Idle, Called, Holding, Drawn, Waiting, Reading, Gone, Size, World, changed, opening, shard}
use Rattle.interleavings.proofs.Basics.{Compared, changed-other, changed-same, compare, other, same}
use Rattle.interleavings.specs.Callers.{named_by}
use Rattle.history.specs.Replayed.{delivered_at}
use Rattle.history.proofs.Reached.{after_more}

-- ---- another caller's event

module _ (z : Size) (w : World) (c d : ℕ) (apart : d ≢ c) where
  abbrev Stays : World → Type 0
  Stays v = v.phase d ≡ w.phase d

  turns : (ph : Phase) → changed w.phase c ph d ≡ w.phase d
  turns ph = changed-other w.phase c ph d apart

  by_call : (r : Request) (ph : Phase) → Stays (called w c r ph)
  by_call r Idle = turns _
  by_call r ph = refl

  by_verdict : (place : ℕ) (k : Key) (v : Verdict) → Stays (judged z w c place k v)
  by_verdict place k (Refuse reason) = turns _
  by_verdict place k (Same o) = turns _
  by_verdict place k (Write change) = turns _

  by_holder : (place : ℕ) (r : Request) (k : Key) (holder : Option ℕ) → Stays (checked_in z w c place r k holder)
  by_holder place r k None = by_verdict place k (verdict r (value w.log w.drawn k))
  by_holder place r k (Some holder) = refl

  by_check : (ph : Phase) → Stays (checked z w c ph)
  by_check (Called place r) = routed (route r)
    where
      routed : (ro : Route) → Stays (checked_by z w c place r ro)
      routed (writes k) = by_holder place r k (w.holder (shard z k))
      routed ro = refl
  by_check ph = refl

  by_reserve : (ph : Phase) → Stays (reserved z w c ph)
  by_reserve (Holding t) = draw (nat_lt w.drawn z.capacity)
    where
      draw : (b : Bool) → Stays (drawn_by z w c t b)
      draw true = turns _
      draw false = turns _
  by_reserve ph = refl

  by_publish : (ph : Phase) → Stays (published z w c ph)
  by_publish (Drawn x) = turns _
  by_publish (Gone (Some x)) = turns _
  by_publish ph = refl

  by_read : (ph : Phase) → Stays (read z w c ph)
  by_read (Called place r) = routed (route r)
    where
      routed : (ro : Route) → Stays (read_by z w c place r ro)
      routed (gets k) = turns _
      routed (lists kind namespace) = turns _
      routed ro = refl
  by_read ph = refl

  by_read_at : (ph : Phase) → Stays (read_at z w c ph)
  by_read_at (Called place r) = routed (route r)
    where
      unless : (number : ℕ) (o : Option Reason) → Stays (begun_unless z w c place r number o)
      unless number (Some reason) = turns _
      unless number None = turns _

      routed : (ro : Route) → Stays (read_at_by z w c place r ro)
      routed (lists_at kind namespace number) = unless number (denied w.floor w.frontier number)
      routed ro = refl
  by_read_at ph = refl

  by_compact : (ph : Phase) → Stays (compacted w c ph)
  by_compact (Called place r) = routed (route r)
    where
      unless : (to : ℕ) (o : Option Reason) → Stays (floored w c place to o)
      unless to (Some reason) = turns _
      unless to None = turns _

      routed : (ro : Route) → Stays (compacted_by w c place ro)
      routed (compacts to) = unless to (denied w.floor w.frontier to)
      routed ro = refl
  by_compact ph = refl

  by_part : (ph : Phase) → Stays (part z w c ph)
  by_part (Reading n p r (s ∷ parts) found) = turns _
  by_part ph = refl

  by_reply : (ph : Phase) → Stays (replied z w c ph)
  by_reply (Waiting saw place reply) = gives (nat_le saw w.frontier)
    where
      gives : (b : Bool) → Stays (with_reply_if b w c reply)
      gives true = turns _
      gives false = refl
  by_reply (Reading n p r [] found) = turns _
  by_reply ph = refl

  by_crash : (ph : Phase) → Stays (crashed z w c ph)
  by_crash (Gone left) = refl
  by_crash Idle = turns _
  by_crash (Called p r) = turns _
  by_crash (Holding t) = turns _
  by_crash (Drawn x) = turns _
  by_crash (Waiting s p r) = turns _
  by_crash (Reading n p r parts found) = turns _

by_raise : (w : World) (d : ℕ) (o : Option Writing) → (raised w o).phase d ≡ w.phase d
by_raise w d None = refl
by_raise w d (Some t) = refl

pub others_stay : (z : Size) (w : World) (e : Event) (d : ℕ) → named_by e ≢ Some d → (step z w e).phase d ≡ w.phase d
others_stay z w (Call c r) d apart = by_call z w c d (λ e. apart (ap Some (sym e))) r (w.phase c)
others_stay z w (Check c) d apart = by_check z w c d (λ e. apart (ap Some (sym e))) (w.phase c)
others_stay z w (Reserve c) d apart = by_reserve z w c d (λ e. apart (ap Some (sym e))) (w.phase c)
others_stay z w (Publish c) d apart = by_publish z w c d (λ e. apart (ap Some (sym e))) (w.phase c)
others_stay z w Raise d apart = by_raise w d (w.log w.frontier)
others_stay z w (Read c) d apart = by_read z w c d (λ e. apart (ap Some (sym e))) (w.phase c)
others_stay z w (ReadAt c) d apart = by_read_at z w c d (λ e. apart (ap Some (sym e))) (w.phase c)
others_stay z w (Compact c) d apart = by_compact z w c d (λ e. apart (ap Some (sym e))) (w.phase c)
others_stay z w (Part c) d apart = by_part z w c d (λ e. apart (ap Some (sym e))) (w.phase c)
others_stay z w (event.Reply c) d apart = by_reply z w c d (λ e. apart (ap Some (sym e))) (w.phase c)
others_stay z w (Crash c) d apart = by_crash z w c d (λ e. apart (ap Some (sym e))) (w.phase c)

-- ---- a caller that is idle, and that neither calls nor crashes

abbrev pub goes_on : Event → Bool
goes_on (Call c r) = false
goes_on (Crash c) = false
goes_on e = true

idle_by : (w : World) (c d : ℕ) (f : Phase → World) → f Idle ≡ w → (d ≢ c → (f (w.phase c)).phase d ≡ w.phase d) → w.phase d ≡ Idle → (f (w.phase c)).phase d ≡ Idle
idle_by w c d f nothing apart idle = by (compare d c)
  where
    by : Compared d c → (f (w.phase c)).phase d ≡ Idle
    by (same e b) = ap (λ ph. (f ph).phase d) (ap w.phase (sym e) ∙ idle) ∙ ap (λ (v : World). v.phase d) nothing ∙ idle
    by (other ne b) = apart ne ∙ idle

pub idle_stays : (z : Size) (w : World) (e : Event) (d : ℕ) → goes_on e ≡ true → w.phase d ≡ Idle → (step z w e).phase d ≡ Idle
idle_stays z w (Call c r) d on idle = absurd cc
idle_stays z w (Check c) d on idle = idle_by w c d (checked z w c) refl (λ apart. by_check z w c d apart (w.phase c)) idle
idle_stays z w (Reserve c) d on idle = idle_by w c d (reserved z w c) refl (λ apart. by_reserve z w c d apart (w.phase c)) idle
idle_stays z w (Publish c) d on idle = idle_by w c d (published z w c) refl (λ apart. by_publish z w c d apart (w.phase c)) idle
idle_stays z w Raise d on idle = by_raise w d (w.log w.frontier) ∙ idle
idle_stays z w (Read c) d on idle = idle_by w c d (read z w c) refl (λ apart. by_read z w c d apart (w.phase c)) idle
idle_stays z w (ReadAt c) d on idle = idle_by w c d (read_at z w c) refl (λ apart. by_read_at z w c d apart (w.phase c)) idle
idle_stays z w (Compact c) d on idle = idle_by w c d (compacted w c) refl (λ apart. by_compact z w c d apart (w.phase c)) idle
idle_stays z w (Part c) d on idle = idle_by w c d (part z w c) refl (λ apart. by_part z w c d apart (w.phase c)) idle
idle_stays z w (event.Reply c) d on idle = idle_by w c d (replied z w c) refl (λ apart. by_reply z w c d apart (w.phase c)) idle
idle_stays z w (Crash c) d on idle = absurd cc

-- ---- a caller that gets its reply

-- a Reply changes nothing, or gives a caller that was not idle its reply
abbrev Gives : Size → World → ℕ → Phase → Type 0
Gives z w c ph = (replied z w c ph ≡ w) ⊎ ((ph ≢ Idle) × ((reply : Reply) × (replied z w c ph ≡ with_reply w c reply)))

gives : (z : Size) (w : World) (c : ℕ) (ph : Phase) → Gives z w c ph
gives z w c (Waiting saw place reply) = by (nat_le saw w.frontier)
  where
    by : (b : Bool) → (with_reply_if b w c reply ≡ w) ⊎ ((Waiting saw place reply ≢ Idle) × ((r : Reply) × (with_reply_if b w c reply ≡ with_reply w c r)))
    by true = inr (λ e. cc, (reply, refl))
    by false = inl refl
gives z w c (Reading n p r [] found) = inr (λ e. cc, ((store.step (only z n found) r).1, refl))
gives z w c ph = inl refl

more : (xs : List Item) (x : Item) → xs ≡ xs ++ x ∷ [] → ⊥
more xs x e = let n = ap length e in let m = length-append xs (x ∷ []) in omega arith

pub delivered_was_busy : (z : Size) (events : List Event) (c : ℕ) (reply : Reply) → trace z (events ++ event.Reply c ∷ []) ≡ trace z events ++ delivered_at (length events) c (Some reply)
    → ((after z opening events).phase c ≢ Idle) × ((after z opening (events ++ event.Reply c ∷ [])).phase c ≡ Idle)
delivered_was_busy z events c reply delivered = by (gives z w c (w.phase c))
  where
    w : World
    w = after z opening events

    next : after z opening (events ++ event.Reply c ∷ []) ≡ step z w (event.Reply c)
    next = after_more z events opening (event.Reply c)

    by : Gives z w c (w.phase c) → (w.phase c ≢ Idle) × ((after z opening (events ++ event.Reply c ∷ [])).phase c ≡ Idle)
    by (inl unchanged) = absurd (more w.trace _ (sym (ap (λ (v : World). v.trace) unchanged) ∙ sym (ap (λ (v : World). v.trace) next) ∙ delivered))
    by (inr (busy, (r, is))) = (busy, ap (λ (v : World). v.phase c) next ∙ ap (λ (v : World). v.phase c) is ∙ changed-same w.phase c Idle)

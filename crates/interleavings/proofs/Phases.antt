-- What holds of each caller's phase before an event holds of it after: by the phases that callers enter.
use Rattle.std.proofs.Common.{◌≡◌, ◌≢◌, ℕ, ◌≤◌, Bool, true, false, List, [], ◌∷◌, Option, Some, None, refl, sym, ap, ◌∙◌, subst}
use Rattle.std.specs.FinMap as map
use Rattle.objects.specs.declared.key.Key.{Key}
use Rattle.objects.specs.declared.kind.Kind.{Kind}
use Rattle.requests.specs.declared.request.Request.{Request}
use Rattle.requests.specs.declared.reply.Reply.TheVariants.{Compacted, Refused, Unchanged}
use Rattle.requests.specs.declared.reply.Reason.{Reason}
use Rattle.requests.specs.declared.reply.Reason.TheVariants.{StoreFull}
use Rattle.requests.specs.declared.verdict.Verdict.{Verdict}
use Rattle.requests.specs.declared.verdict.Verdict.TheVariants.{Refuse, Same, Write}
use Rattle.requests.specs.Verdict.{verdict}
use Rattle.plain_store.specs.Route.{Route, compacts, gets, lists, lists_at, route, writes}
use Rattle.plain_store.specs.Store.{Objects, denied}
use Rattle.interleavings.specs.declared.event.Event.{Event}
use Rattle.interleavings.specs.declared.event.Event.TheVariants.{Call, Check, Reserve, Publish, Raise, Read, ReadAt, Compact, Part, Crash}
use Rattle.interleavings.specs.declared.event.Event.TheVariants as event
use Rattle.interleavings.specs.Facts.{draw_in}
use Rattle.interleavings.specs.Log.{Log, Writing, last_write, value}
use Rattle.interleavings.specs.World.{Draw, Phase, Idle, Called, Holding, Drawn, Waiting, Reading, Gone, Size, World, changed, shard}
use Rattle.interleavings.specs.Step.{all_shards, begun_unless, called, checked, checked_by, checked_in, compacted, compacted_by, crashed, drawn_by, filled, floored, with_reply_if, with_read_reply, judged, part, part_of, published, raised, read, read_at, read_at_by, read_by, replied, reserved, step, with_part}
use Rattle.interleavings.proofs.Basics.{changed_all}
use Rattle.interleavings.proofs.Plainly.{denied_none}

-- a phase with no draw and no read
abbrev pub is_quiet : Phase → Bool
is_quiet Idle = true
is_quiet (Called p r) = true
is_quiet (Holding t) = true
is_quiet (Drawn d) = false
is_quiet (Waiting s p r) = true
is_quiet (Reading n p r parts found) = false
is_quiet (Gone None) = true
is_quiet (Gone (Some d)) = false

-- what is listed at a number is read at it
abbrev pub IsNumbered : Request → ℕ → Type 0
IsNumbered r n = (kind : Kind) (namespace : List ℕ) (m : ℕ) → route r ≡ lists_at kind namespace m → m ≡ n

-- What is said of a log, a floor and a phase holds of each phase that is entered from this world, and of the others.
pub record Keeps (w : World) (P : Log → ℕ → Phase → Type 0) : Type 0 where
  pub quiet : (log : Log) (ph : Phase) → is_quiet ph ≡ true → P log w.floor ph
  pub starts : (n p : ℕ) (r : Request) (parts : List ℕ) → w.floor ≤ n → IsNumbered r n → P w.log w.floor (Reading n p r parts map.empty)
  pub reads : (n p : ℕ) (r : Request) (parts rest : List ℕ) (old new : Objects) → P w.log w.floor (Reading n p r parts old) → P w.log w.floor (Reading n p r rest new)
  pub draws : (t : Writing) → P w.log w.floor (Drawn (record { index = w.drawn; writing = t }))
  pub leaves : (d : Draw) → P w.log w.floor (Drawn d) → P w.log w.floor (Gone (Some d))
  pub rises : (to : ℕ) (ph : Phase) → w.floor ≤ to → P w.log w.floor ph → P w.log to ph
  pub fills : (c d : ℕ) (x : Draw) → draw_in (w.phase c) ≡ Some x → d ≢ c → P w.log w.floor (w.phase d) → P (changed w.log x.index (Some x.writing)) w.floor (w.phase d)

module _ (z : Size) (w : World) (c : ℕ) (P : Log → ℕ → Phase → Type 0) (keeps : Keeps w P) (all : (d : ℕ) → P w.log w.floor (w.phase d)) where
  abbrev All : World → Type 0
  All v = (d : ℕ) → P v.log v.floor (v.phase d)

  enter : (ph : Phase) → P w.log w.floor ph → (d : ℕ) → P w.log w.floor (changed w.phase c ph d)
  enter ph here = changed_all (λ d ph. P w.log w.floor ph) w.phase c ph here (λ d ne. all d)

  rest : (ph : Phase) → is_quiet ph ≡ true → (d : ℕ) → P w.log w.floor (changed w.phase c ph d)
  rest ph is = enter ph (keeps.quiet w.log ph is)

  -- ---- writes
  by_call : (r : Request) (ph : Phase) → All (called w c r ph)
  by_call r Idle = rest (Called w.now r) refl
  by_call r ph = all

  by_verdict : (place : ℕ) (k : Key) (v : Verdict) → All (judged z w c place k v)
  by_verdict place k (Refuse reason) = rest (Waiting (last_write w.log w.drawn k) place (Refused reason)) refl
  by_verdict place k (Same o) = rest (Waiting (last_write w.log w.drawn k) place (Unchanged o)) refl
  by_verdict place k (Write change) = rest (Holding (record { place = place; key = k; change = change })) refl

  by_holder : (place : ℕ) (r : Request) (k : Key) (holder : Option ℕ) → All (checked_in z w c place r k holder)
  by_holder place r k None = by_verdict place k (verdict r (value w.log w.drawn k))
  by_holder place r k (Some holder) = all

  by_check : (ph : Phase) → All (checked z w c ph)
  by_check (Called place r) = routed (route r)
    where
      routed : (ro : Route) → All (checked_by z w c place r ro)
      routed (writes k) = by_holder place r k (w.holder (shard z k))
      routed ro = all
  by_check ph = all

  by_reserve : (ph : Phase) → All (reserved z w c ph)
  by_reserve (Holding t) = draw _
    where
      draw : (b : Bool) → All (drawn_by z w c t b)
      draw true = enter (Drawn (record { index = w.drawn; writing = t })) (keeps.draws t)
      draw false = rest (Waiting z.capacity t.place (Refused StoreFull)) refl
  by_reserve ph = all

  by_fill : (x : Draw) (ph : Phase) → draw_in (w.phase c) ≡ Some x → is_quiet ph ≡ true → All (filled z w c x ph)
  by_fill x ph drawn is =
      changed_all (λ d ph. P (changed w.log x.index (Some x.writing)) w.floor ph) w.phase c ph (keeps.quiet (changed w.log x.index (Some x.writing)) ph is)
      (λ d ne. keeps.fills c d x drawn ne (all d))

  by_publish : (ph : Phase) → w.phase c ≡ ph → All (published z w c ph)
  by_publish (Drawn x) at = by_fill x _ (ap draw_in at) refl
  by_publish (Gone (Some x)) at = by_fill x (Gone None) (ap draw_in at) refl
  by_publish ph at = all

  by_raise : (o : Option Writing) → All (raised w o)
  by_raise None = all
  by_raise (Some t) = all

  -- ---- reads and compactions
  module _ (standing : w.floor ≤ w.frontier) where
    by_read : (ph : Phase) → All (read z w c ph)
    by_read (Called place r) = routed (route r) refl
      where
        routed : (ro : Route) → route r ≡ ro → All (read_by z w c place r ro)
        routed (gets k) e = enter (Reading w.frontier place r (shard z k ∷ []) map.empty) (keeps.starts w.frontier place r (shard z k ∷ []) standing
            (λ kind namespace m is. let clash : gets k ≡ lists_at kind namespace m = sym e ∙ is in absurd cc))
        routed (lists kind namespace) e = enter (Reading w.frontier place r (all_shards z) map.empty) (keeps.starts w.frontier place r (all_shards z) standing
            (λ other space m is. let clash : lists kind namespace ≡ lists_at other space m = sym e ∙ is in absurd cc))
        routed ro e = all
    by_read ph = all

  by_read_at : (ph : Phase) → All (read_at z w c ph)
  by_read_at (Called place r) = routed (route r) refl
    where
      unless : (kind : Kind) (namespace : List ℕ) (number : ℕ) → route r ≡ lists_at kind namespace number → (o : Option Reason) → denied w.floor w.frontier number ≡ o → All (begun_unless z w c place r number o)
      unless kind namespace number e (Some reason) is = rest (Waiting 0 place (Refused reason)) refl
      unless kind namespace number e None is = enter (Reading number place r (all_shards z) map.empty) (keeps.starts number place r (all_shards z) (denied_none w.floor w.frontier number is).0
          (λ other space m routed. let one : lists_at other space m ≡ lists_at kind namespace number = sym routed ∙ e in cc))

      routed : (ro : Route) → route r ≡ ro → All (read_at_by z w c place r ro)
      routed (lists_at kind namespace number) e = unless kind namespace number e (denied w.floor w.frontier number) refl
      routed ro e = all
  by_read_at ph = all

  by_compact : (ph : Phase) → All (compacted w c ph)
  by_compact (Called place r) = routed (route r)
    where
      unless : (to : ℕ) (o : Option Reason) → denied w.floor w.frontier to ≡ o → All (floored w c place to o)
      unless to (Some reason) is = rest (Waiting 0 place (Refused reason)) refl
      unless to None is = λ d. keeps.rises to _ (denied_none w.floor w.frontier to is).0 (rest (Waiting 0 place (Compacted to)) refl d)

      routed : (ro : Route) → All (compacted_by w c place ro)
      routed (compacts to) = unless to (denied w.floor w.frontier to) refl
      routed ro = all
  by_compact ph = all

  by_part : (ph : Phase) → w.phase c ≡ ph → All (part z w c ph)
  by_part (Reading n p r parts found) at = of parts (subst (P w.log w.floor) at (all c))
    where
      of : (parts : List ℕ) → P w.log w.floor (Reading n p r parts found) → All (part_of z w c n p r parts found)
      of [] here = all
      of (s ∷ parts) here = enter (Reading n p r parts (with_part z w.log n r s found)) (keeps.reads n p r (s ∷ parts) parts found (with_part z w.log n r s found) here)
  by_part ph at = all

  -- ---- replies and crashes
  by_reply : (ph : Phase) → All (replied z w c ph)
  by_reply (Waiting saw place reply) = by_wait _
    where
      by_wait : (b : Bool) → All (with_reply_if b w c reply)
      by_wait true = rest Idle refl
      by_wait false = all
  by_reply (Reading n p r parts found) = by_parts parts
    where
      by_parts : (parts : List ℕ) → All (with_read_reply z w c n r parts found)
      by_parts [] = rest Idle refl
      by_parts (s ∷ parts) = all
  by_reply ph = all

  by_crash : (ph : Phase) → w.phase c ≡ ph → All (crashed z w c ph)
  by_crash Idle at = rest (Gone None) refl
  by_crash (Called p r) at = rest (Gone None) refl
  by_crash (Holding t) at = rest (Gone None) refl
  by_crash (Drawn d) at = enter (Gone (Some d)) (keeps.leaves d (subst (P w.log w.floor) at (all c)))
  by_crash (Waiting s p r) at = rest (Gone None) refl
  by_crash (Reading n p r parts found) at = rest (Gone None) refl
  by_crash (Gone left) at = all

-- each event keeps it
pub phases_kept : (z : Size) (w : World) (P : Log → ℕ → Phase → Type 0) → Keeps w P → w.floor ≤ w.frontier → ((c : ℕ) → P w.log w.floor (w.phase c)) → (e : Event)
    → (c : ℕ) → P (step z w e).log (step z w e).floor ((step z w e).phase c)
phases_kept z w P keeps standing all (Call c r) = by_call z w c P keeps all r (w.phase c)
phases_kept z w P keeps standing all (Check c) = by_check z w c P keeps all (w.phase c)
phases_kept z w P keeps standing all (Reserve c) = by_reserve z w c P keeps all (w.phase c)
phases_kept z w P keeps standing all (Publish c) = by_publish z w c P keeps all (w.phase c) refl
phases_kept z w P keeps standing all Raise = by_raise z w 0 P keeps all (w.log w.frontier)
phases_kept z w P keeps standing all (Read c) = by_read z w c P keeps all standing (w.phase c)
phases_kept z w P keeps standing all (ReadAt c) = by_read_at z w c P keeps all (w.phase c)
phases_kept z w P keeps standing all (Compact c) = by_compact z w c P keeps all (w.phase c)
phases_kept z w P keeps standing all (Part c) = by_part z w c P keeps all (w.phase c) refl
phases_kept z w P keeps standing all (event.Reply c) = by_reply z w c P keeps all (w.phase c)
phases_kept z w P keeps standing all (Crash c) = by_crash z w c P keeps all (w.phase c) refl

-- What each event of the store adds to its trace: a call, a reply, or nothing.
use Rattle.std.proofs.Common.{◌≡◌, ◌⊎◌, inl, inr, ℕ, Bool, true, false, List, [], ◌∷◌, ◌++◌, Option, Some, None, refl}
use Rattle.objects.specs.declared.key.Key.{Key}
use Rattle.requests.specs.declared.request.Request.{Request}
use Rattle.requests.specs.declared.reply.Reply.{Reply}
use Rattle.requests.specs.declared.reply.Reason.{Reason}
use Rattle.requests.specs.declared.verdict.Verdict.{Verdict}
use Rattle.requests.specs.declared.verdict.Verdict.TheVariants.{Refuse, Same, Write}
use Rattle.requests.specs.Verdict.{verdict}
use Rattle.plain_store.specs.Route.{Route, compacts, gets, lists, lists_at, route, writes}
use Rattle.plain_store.specs.Store.{Objects, denied}
use Rattle.plain_store.specs.Store as store
use Rattle.interleavings.specs.declared.event.Event.{Event}
use Rattle.interleavings.specs.declared.trace.Item.TheVariants as item
use Rattle.interleavings.specs.Log.{Writing, value}
use Rattle.interleavings.specs.Step.{begun_unless, called, checked, checked_by, checked_in, compacted, compacted_by, crashed, drawn_by, floored, with_reply_if, with_read_reply, judged, only, part, part_of, published, raised, read, read_at, read_at_by, read_by, replied, reserved, step}
use Rattle.interleavings.specs.Trace.{after}
use Rattle.interleavings.specs.World.{Phase, Idle, Called, Holding, Drawn, Waiting, Reading, Gone, Size, World, shard}

pub after_more : (z : Size) (w : World) (es : List Event) (e : Event) → after z w (es ++ e ∷ []) ≡ step z (after z w es) e
after_more z w [] e = refl
after_more z w (f ∷ es) e = after_more z (step z w f) es e

pub raise_trace : (w : World) (o : Option Writing) → (raised w o).trace ≡ w.trace
raise_trace w None = refl
raise_trace w (Some t) = refl

module _ (z : Size) (w : World) (n : ℕ) where
  -- ---- a call, if the caller is idle
  pub call_trace : (r : Request) (ph : Phase) → ((called w n r ph).trace ≡ w.trace ++ item.Call w.now n r ∷ []) ⊎ ((called w n r ph).trace ≡ w.trace)
  call_trace r Idle = inl refl
  call_trace r ph = inr refl

  -- ---- a reply, if one is ready
  abbrev pub Given : World → Type 0
  Given v = ((a : Reply) × (v.trace ≡ w.trace ++ item.Reply w.now n a ∷ [])) ⊎ (v.trace ≡ w.trace)

  with_reply_trace : (b : Bool) (a : Reply) → Given (with_reply_if b w n a)
  with_reply_trace true a = inl (a, refl)
  with_reply_trace false a = inr refl

  with_read_reply_trace : (number : ℕ) (r : Request) (parts : List ℕ) (found : Objects) → Given (with_read_reply z w n number r parts found)
  with_read_reply_trace number r [] found = inl ((store.step (only z number found) r).1, refl)
  with_read_reply_trace number r (s ∷ parts) found = inr refl

  pub reply_trace : (ph : Phase) → Given (replied z w n ph)
  reply_trace (Waiting saw place a) = with_reply_trace _ a
  reply_trace (Reading number place r parts found) = with_read_reply_trace number r parts found
  reply_trace ph = inr refl

  -- ---- nothing
  judged_trace : (place : ℕ) (k : Key) (v : Verdict) → (judged z w n place k v).trace ≡ w.trace
  judged_trace place k (Refuse reason) = refl
  judged_trace place k (Same o) = refl
  judged_trace place k (Write change) = refl

  holder_trace : (place : ℕ) (r : Request) (k : Key) (holder : Option ℕ) → (checked_in z w n place r k holder).trace ≡ w.trace
  holder_trace place r k None = judged_trace place k (verdict r (value w.log w.drawn k))
  holder_trace place r k (Some holder) = refl

  check_routed : (place : ℕ) (r : Request) (ro : Route) → (checked_by z w n place r ro).trace ≡ w.trace
  check_routed place r (writes k) = holder_trace place r k (w.holder (shard z k))
  check_routed place r ro = refl

  pub check_trace : (ph : Phase) → (checked z w n ph).trace ≡ w.trace
  check_trace (Called place r) = check_routed place r (route r)
  check_trace ph = refl

  draw_trace : (t : Writing) (b : Bool) → (drawn_by z w n t b).trace ≡ w.trace
  draw_trace t true = refl
  draw_trace t false = refl

  pub reserve_trace : (ph : Phase) → (reserved z w n ph).trace ≡ w.trace
  reserve_trace (Holding t) = draw_trace t _
  reserve_trace ph = refl

  pub publish_trace : (ph : Phase) → (published z w n ph).trace ≡ w.trace
  publish_trace (Drawn d) = refl
  publish_trace (Gone (Some d)) = refl
  publish_trace ph = refl

  read_routed : (place : ℕ) (r : Request) (ro : Route) → (read_by z w n place r ro).trace ≡ w.trace
  read_routed place r (gets k) = refl
  read_routed place r (lists kind namespace) = refl
  read_routed place r ro = refl

  pub read_trace : (ph : Phase) → (read z w n ph).trace ≡ w.trace
  read_trace (Called place r) = read_routed place r (route r)
  read_trace ph = refl

  begun_trace : (place number : ℕ) (r : Request) (o : Option Reason) → (begun_unless z w n place r number o).trace ≡ w.trace
  begun_trace place number r (Some reason) = refl
  begun_trace place number r None = refl

  read_at_routed : (place : ℕ) (r : Request) (ro : Route) → (read_at_by z w n place r ro).trace ≡ w.trace
  read_at_routed place r (lists_at kind namespace number) = begun_trace place number r (denied w.floor w.frontier number)
  read_at_routed place r ro = refl

  pub read_at_trace : (ph : Phase) → (read_at z w n ph).trace ≡ w.trace
  read_at_trace (Called place r) = read_at_routed place r (route r)
  read_at_trace ph = refl

  floored_trace : (place to : ℕ) (o : Option Reason) → (floored w n place to o).trace ≡ w.trace
  floored_trace place to (Some reason) = refl
  floored_trace place to None = refl

  compact_routed : (place : ℕ) (ro : Route) → (compacted_by w n place ro).trace ≡ w.trace
  compact_routed place (compacts to) = floored_trace place to (denied w.floor w.frontier to)
  compact_routed place ro = refl

  pub compact_trace : (ph : Phase) → (compacted w n ph).trace ≡ w.trace
  compact_trace (Called place r) = compact_routed place (route r)
  compact_trace ph = refl

  part_read : (number place : ℕ) (r : Request) (parts : List ℕ) (found : Objects) → (part_of z w n number place r parts found).trace ≡ w.trace
  part_read number place r [] found = refl
  part_read number place r (s ∷ parts) found = refl

  pub part_trace : (ph : Phase) → (part z w n ph).trace ≡ w.trace
  part_trace (Reading number place r parts found) = part_read number place r parts found
  part_trace ph = refl

  pub crash_trace : (ph : Phase) → (crashed z w n ph).trace ≡ w.trace
  crash_trace (Gone left) = refl
  crash_trace ph = refl

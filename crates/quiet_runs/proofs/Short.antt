-- In each run a read has at most one part for each shard, or one of the shard of its key.
use Rattle.std.proofs.Common.{◌≤◌, ◌+◌, ◌∷◌, [], ℕ, Bool, true, false, List, length, Option, Some, None, arith}
use Rattle.std.specs.FinMap as map
use Rattle.std.proofs.lemmas.List.FromFn.{length-range_with_len}
use Rattle.objects.specs.declared.key.Key.{Key}
use Rattle.requests.specs.declared.request.Request.{Request}
use Rattle.requests.specs.declared.reply.Reason.{Reason}
use Rattle.requests.specs.declared.verdict.Verdict.{Verdict}
use Rattle.requests.specs.declared.verdict.Verdict.TheVariants.{Refuse, Same, Write}
use Rattle.requests.specs.Verdict.{verdict}
use Rattle.plain_store.specs.Route.{Route, gets, lists, lists_at, route, writes, compacts}
use Rattle.plain_store.specs.Store.{denied}
use Rattle.interleavings.specs.declared.event.Event.{Event}
use Rattle.interleavings.specs.declared.event.Event.TheVariants.{Call, Check, Reserve, Publish, Raise, Read, ReadAt, Compact, Part, Crash}
use Rattle.interleavings.specs.declared.event.Event.TheVariants as event
use Rattle.interleavings.specs.Log.{Writing, value}
use Rattle.interleavings.specs.Step.{all_shards, begun_unless, called, checked, checked_by, checked_in, compacted, compacted_by, crashed, drawn_by, floored, judged, part, part_of, published, raised, read, read_at, read_at_by, read_by, replied, reserved, step, with_part, with_read_reply, with_reply_if}
use Rattle.interleavings.specs.Trace.{after}
use Rattle.interleavings.specs.World.{Phase, Idle, Called, Holding, Drawn, Waiting, Reading, Gone, Size, World, changed, opening, shard}
use Rattle.interleavings.proofs.Basics.{changed_all}

abbrev pub IsShort : (shards : ℕ) → Phase → Type 0
IsShort n (Reading number p r parts found) = length parts ≤ n + 1
IsShort n ph = Unit {0}

abbrev pub AreShort : Size → World → Type 0
AreShort z w = (d : ℕ) → IsShort z.shards (w.phase d)

module _ (z : Size) (w : World) (c : ℕ) (all : AreShort z w) where
  enter : (ph : Phase) → IsShort z.shards ph → (d : ℕ) → IsShort z.shards (changed w.phase c ph d)
  enter ph here = changed_all (λ d ph. IsShort z.shards ph) w.phase c ph here (λ d ne. all d)

  every : length (all_shards z) ≤ z.shards + 1
  every = let all = length-range_with_len 0 z.shards in omega (arith, all)

  by_call : (r : Request) (ph : Phase) → AreShort z (called w c r ph)
  by_call r Idle = enter (Called w.now r) tt
  by_call r ph = all

  by_verdict : (place : ℕ) (k : Key) (v : Verdict) → AreShort z (judged z w c place k v)
  by_verdict place k (Refuse reason) = enter _ tt
  by_verdict place k (Same o) = enter _ tt
  by_verdict place k (Write change) = enter _ tt

  by_holder : (place : ℕ) (r : Request) (k : Key) (holder : Option ℕ) → AreShort z (checked_in z w c place r k holder)
  by_holder place r k None = by_verdict place k (verdict r (value w.log w.drawn k))
  by_holder place r k (Some holder) = all

  by_check : (ph : Phase) → AreShort z (checked z w c ph)
  by_check (Called place r) = routed (route r)
    where
      routed : (ro : Route) → AreShort z (checked_by z w c place r ro)
      routed (writes k) = by_holder place r k (w.holder (shard z k))
      routed ro = all
  by_check ph = all

  by_reserve : (ph : Phase) → AreShort z (reserved z w c ph)
  by_reserve (Holding t) = draw _
    where
      draw : (b : Bool) → AreShort z (drawn_by z w c t b)
      draw true = enter _ tt
      draw false = enter _ tt
  by_reserve ph = all

  by_publish : (ph : Phase) → AreShort z (published z w c ph)
  by_publish (Drawn d) = enter _ tt
  by_publish (Gone (Some d)) = enter _ tt
  by_publish ph = all

  by_raise : (o : Option Writing) → AreShort z (raised w o)
  by_raise None = all
  by_raise (Some t) = all

  by_read : (ph : Phase) → AreShort z (read z w c ph)
  by_read (Called place r) = routed (route r)
    where
      routed : (ro : Route) → AreShort z (read_by z w c place r ro)
      routed (gets k) = enter (Reading w.frontier place r (shard z k ∷ []) map.empty) (omega arith)
      routed (lists kind namespace) = enter (Reading w.frontier place r (all_shards z) map.empty) every
      routed ro = all
  by_read ph = all

  by_read_at : (ph : Phase) → AreShort z (read_at z w c ph)
  by_read_at (Called place r) = routed (route r)
    where
      unless : (number : ℕ) (o : Option Reason) → AreShort z (begun_unless z w c place r number o)
      unless number (Some reason) = enter _ tt
      unless number None = enter (Reading number place r (all_shards z) map.empty) every

      routed : (ro : Route) → AreShort z (read_at_by z w c place r ro)
      routed (lists_at kind namespace number) = unless number (denied w.floor w.frontier number)
      routed ro = all
  by_read_at ph = all

  by_compact : (ph : Phase) → AreShort z (compacted w c ph)
  by_compact (Called place r) = routed (route r)
    where
      unless : (to : ℕ) (o : Option Reason) → AreShort z (floored w c place to o)
      unless to (Some reason) = enter _ tt
      unless to None = enter _ tt

      routed : (ro : Route) → AreShort z (compacted_by w c place ro)
      routed (compacts to) = unless to (denied w.floor w.frontier to)
      routed ro = all
  by_compact ph = all

  by_part : (ph : Phase) → IsShort z.shards ph → AreShort z (part z w c ph)
  by_part (Reading n p r parts found) short = of parts short
    where
      of : (parts : List ℕ) → length parts ≤ z.shards + 1 → AreShort z (part_of z w c n p r parts found)
      of [] short = all
      of (s ∷ parts) short = enter (Reading n p r parts (with_part z w.log n r s found)) (omega (arith, short))
  by_part ph short = all

  by_reply : (ph : Phase) → AreShort z (replied z w c ph)
  by_reply (Waiting saw place reply) = by_wait _
    where
      by_wait : (b : Bool) → AreShort z (with_reply_if b w c reply)
      by_wait true = enter Idle tt
      by_wait false = all
  by_reply (Reading n p r parts found) = by_parts parts
    where
      by_parts : (parts : List ℕ) → AreShort z (with_read_reply z w c n r parts found)
      by_parts [] = enter Idle tt
      by_parts (s ∷ parts) = all
  by_reply ph = all

  by_crash : (ph : Phase) → AreShort z (crashed z w c ph)
  by_crash (Gone left) = all
  by_crash Idle = enter _ tt
  by_crash (Called p r) = enter _ tt
  by_crash (Holding t) = enter _ tt
  by_crash (Drawn d) = enter _ tt
  by_crash (Waiting s p r) = enter _ tt
  by_crash (Reading n p r parts found) = enter _ tt

step_short : (z : Size) (w : World) → AreShort z w → (e : Event) → AreShort z (step z w e)
step_short z w all (Call c r) = by_call z w c all r (w.phase c)
step_short z w all (Check c) = by_check z w c all (w.phase c)
step_short z w all (Reserve c) = by_reserve z w c all (w.phase c)
step_short z w all (Publish c) = by_publish z w c all (w.phase c)
step_short z w all Raise = by_raise z w 0 all (w.log w.frontier)
step_short z w all (Read c) = by_read z w c all (w.phase c)
step_short z w all (ReadAt c) = by_read_at z w c all (w.phase c)
step_short z w all (Compact c) = by_compact z w c all (w.phase c)
step_short z w all (Part c) = by_part z w c all (w.phase c) (all c)
step_short z w all (event.Reply c) = by_reply z w c all (w.phase c)
step_short z w all (Crash c) = by_crash z w c all (w.phase c)

run_short : (z : Size) (events : List Event) (w : World) → AreShort z w → AreShort z (after z w events)
run_short z [] w all = all
run_short z (e ∷ es) w all = run_short z es (step z w e) (step_short z w all e)

pub reads_are_short : (z : Size) (events : List Event) → AreShort z (after z opening events)
reads_are_short z events = run_short z events opening (λ d. tt)

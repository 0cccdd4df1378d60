-- The events of reads and compactions do what the definition says.
use Rattle.std.proofs.Common.{◌≡◌, ℕ, List, [], ◌∷◌, length, Option, Some, None, refl, sym, ap, ◌∙◌, subst, nat_le, arith}
use Rattle.std.proofs.lemmas.List.FromFn.{length-range_with_len}
use Rattle.std.specs.List.{range_with_len}
use Rattle.requests.specs.declared.request.Request.{Request}
use Rattle.requests.specs.declared.reply.Reply.TheVariants.{Compacted, Refused}
use Rattle.requests.specs.declared.reply.Reason.{Reason}
use Rattle.plain_store.specs.Route.{Route, compacts, gets, lists, lists_at, route, writes}
use Rattle.plain_store.specs.Store.{denied}
use Rattle.plain_store.proofs.Denials.{readable}
use Rattle.interleavings.specs.declared.event.Event.TheVariants.{Compact, Read, ReadAt}
use Rattle.interleavings.specs.declared.event.Event.TheVariants as event
use Rattle.history.specs.declared.machine.Machine.{Machine}
use Rattle.interleavings.specs.Order.{Arrangement, last_or_parked, moved_by, with_last}
use Rattle.interleavings.specs.Step.{all_shards, begun, begun_unless, compacted, compacted_by, enters, floored, read, read_at, read_at_by, read_by}
use Rattle.interleavings.specs.World.{Phase, Called, Waiting, Reading, Size, World, changed, shard}
use Rattle.history.specs.Replayed.{Begins, Does, Shows, Waits, called_in, exact_in, floor_in, parts_in, phase_at}
use Rattle.interleavings.proofs.Basics.{changed-same}
use Rattle.std.proofs.lemmas.Option.{same_Some}
use Rattle.history.proofs.Stepping.{called_is, compact_not_called, nothing, read_at_not_called, read_not_called, steps}

count_shards : (start n : ℕ) → length (range_with_len start n) ≡ n
count_shards start n = length-range_with_len start n

module _ (m : Machine) (c : ℕ) where
  pub read_nothing : called_in (phase_at m.callers c) ≡ None → Does (Read c) m m
  unfolding Does
  read_nothing denies = λ z w a sh facts. nothing z w c a m _ (read_not_called z w c (phase_at m.callers c) (w.phase c) denies (sh.phases c)) sh

  pub read_at_nothing : called_in (phase_at m.callers c) ≡ None → Does (ReadAt c) m m
  unfolding Does
  read_at_nothing denies = λ z w a sh facts. nothing z w c a m _ (read_at_not_called z w c (phase_at m.callers c) (w.phase c) denies (sh.phases c)) sh

  pub compact_nothing : called_in (phase_at m.callers c) ≡ None → Does (event.Compact c) m m
  unfolding Does
  compact_nothing denies = λ z w a sh facts. nothing z w c a m _ (compact_not_called z w c (phase_at m.callers c) (w.phase c) denies (sh.phases c)) sh

module _ (m : Machine) (c place : ℕ) (r : Request) (phase_is : called_in (phase_at m.callers c) ≡ Some (place, r)) where
  at : (z : Size) (w : World) (a : Arrangement) → Shows z w a m → w.phase c ≡ Called place r
  at z w a sh = called_is (phase_at m.callers c) (w.phase c) place r phase_is (sh.phases c)

  -- ---- Read
  not_read : (z : Size) (w : World) (ro : Route) (n : ℕ) → parts_in n ro ≡ None → read_by z w c place r ro ≡ w
  not_read z w (gets k) n e = absurd cc
  not_read z w (lists kind namespace) n e = absurd cc
  not_read z w (writes k) n e = refl
  not_read z w (lists_at kind namespace number) n e = refl
  not_read z w (compacts to) n e = refl

  pub read_other : (n : ℕ) → parts_in n (route r) ≡ None → Does (Read c) m m
  unfolding Does
  read_other n denies = λ z w a sh facts. nothing z w c a m _ (ap (read z w c) (at z w a sh) ∙ not_read z w (route r) n denies) sh

  begins : (z : Size) (w : World) (ro : Route) (n left : ℕ) → n ≡ z.shards → parts_in n ro ≡ Some left → (parts : List ℕ) × ((length parts ≡ left) × (read_by z w c place r ro ≡ begun w c w.frontier place r parts))
  begins z w (gets k) n left is e = (shard z k ∷ [], (same_Some _ _ e, refl))
  begins z w (lists kind namespace) n left is e = (all_shards z, (count_shards 0 z.shards ∙ sym is ∙ same_Some _ _ e, refl))
  begins z w (writes k) n left is e = absurd cc
  begins z w (lists_at kind namespace number) n left is e = absurd cc
  begins z w (compacts to) n left is e = absurd cc

  reading : (z : Size) (w : World) (a : Arrangement) (m' : Machine) (u : World) (number : ℕ) (parts : List ℕ) → w.phase c ≡ Called place r → u ≡ begun w c number place r parts → Shows z (begun w c number place r parts) (with_last a place) m'
      → Shows z u (moved_by c w u a) m'
  reading z w a m' u number parts here is shown =
      steps z w c a m' (begun w c number place r parts) u (Called place r) (Reading number place r parts Rattle.std.specs.FinMap.empty) is here (changed-same w.phase c (Reading number place r parts Rattle.std.specs.FinMap.empty)) shown

  pub read_done : (m' : Machine) (left : ℕ) → Some left ≡ parts_in (length m.shards.items) (route r) → Begins c place m.frontier left m m' → Does (Read c) m m'
  unfolding Does Begins
  read_done m' left e starts = λ z w a sh facts.
      let b = begins z w (route r) (length m.shards.items) left sh.log.count (sym e) in
      let here = at z w a sh in
      reading z w a m' _ m.frontier b.0 here (ap (read z w c) here ∙ b.1.1 ∙ ap (λ n. begun w c n place r b.0) (sym sh.frontier)) (starts z w a r b.0 sh here b.1.0)

  -- ---- ReadAt
  not_exact : (z : Size) (w : World) (ro : Route) → exact_in ro ≡ None → read_at_by z w c place r ro ≡ w
  not_exact z w (gets k) e = refl
  not_exact z w (lists kind namespace) e = refl
  not_exact z w (writes k) e = refl
  not_exact z w (lists_at kind namespace number) e = absurd cc
  not_exact z w (compacts to) e = refl

  pub read_at_other : exact_in (route r) ≡ None → Does (ReadAt c) m m
  unfolding Does
  read_at_other denies = λ z w a sh facts. nothing z w c a m _ (ap (read_at z w c) (at z w a sh) ∙ not_exact z w (route r) denies) sh

  exact_begins : (z : Size) (w : World) (ro : Route) (number : ℕ) → exact_in ro ≡ Some number → read_at_by z w c place r ro ≡ begun_unless z w c place r number (denied w.floor w.frontier number)
  exact_begins z w (gets k) number e = absurd cc
  exact_begins z w (lists kind namespace) number e = absurd cc
  exact_begins z w (writes k) number e = absurd cc
  exact_begins z w (lists_at kind namespace n) number e = ap (λ i. begun_unless z w c place r i (denied w.floor w.frontier i)) (same_Some _ _ e)
  exact_begins z w (compacts to) number e = absurd cc

  denial : (z : Size) (w : World) (a : Arrangement) (o : Option Reason) (number : ℕ) → Shows z w a m → o ≡ denied m.floor m.frontier number → denied w.floor w.frontier number ≡ o
  denial z w a o number sh e = ap (λ i. denied i w.frontier number) (sym sh.floor) ∙ ap (λ i. denied m.floor i number) (sym sh.frontier) ∙ sym e

  pub read_at_refused : (m' : Machine) (number : ℕ) (reason : Reason) → Some number ≡ exact_in (route r) → Some reason ≡ denied m.floor m.frontier number → Waits c 0 place (Refused reason) m m' → Does (ReadAt c) m m'
  unfolding Does Waits
  read_at_refused m' number reason e denies waits = λ z w a sh facts.
      let here = at z w a sh in
      let to : Phase = Waiting 0 place (Refused reason) in
      steps z w c a m' (enters w c to) _ (Called place r) to
      (ap (read_at z w c) here ∙ exact_begins z w (route r) number (sym e) ∙ ap (begun_unless z w c place r number) (denial z w a (Some reason) number sh denies)) here (changed-same w.phase c to) (waits z w a sh)

  pub read_at_done : (m' : Machine) (number : ℕ) → Some number ≡ exact_in (route r) → None ≡ denied m.floor m.frontier number → Begins c place number (length m.shards.items) m m' → Does (ReadAt c) m m'
  unfolding Does Begins
  read_at_done m' number e denies starts = λ z w a sh facts.
      let here = at z w a sh in
      reading z w a m' _ number (all_shards z) here
      (ap (read_at z w c) here ∙ exact_begins z w (route r) number (sym e) ∙ ap (begun_unless z w c place r number) (denial z w a None number sh denies))
      (starts z w a r (all_shards z) sh here (count_shards 0 z.shards ∙ sym sh.log.count))

  -- ---- Compact
  not_floor : (w : World) (ro : Route) → floor_in ro ≡ None → compacted_by w c place ro ≡ w
  not_floor w (gets k) e = refl
  not_floor w (lists kind namespace) e = refl
  not_floor w (writes k) e = refl
  not_floor w (lists_at kind namespace number) e = refl
  not_floor w (compacts to) e = absurd cc

  pub compact_other : floor_in (route r) ≡ None → Does (event.Compact c) m m
  unfolding Does
  compact_other denies = λ z w a sh facts. nothing z w c a m _ (ap (compacted w c) (at z w a sh) ∙ not_floor w (route r) denies) sh

  floor_goes : (w : World) (ro : Route) (to : ℕ) → floor_in ro ≡ Some to → compacted_by w c place ro ≡ floored w c place to (denied w.floor w.frontier to)
  floor_goes w (gets k) number e = absurd cc
  floor_goes w (lists kind namespace) number e = absurd cc
  floor_goes w (writes k) number e = absurd cc
  floor_goes w (lists_at kind namespace n) number e = absurd cc
  floor_goes w (compacts to) number e = ap (λ i. floored w c place i (denied w.floor w.frontier i)) (same_Some _ _ e)

  pub compact_refused : (m' : Machine) (to : ℕ) (reason : Reason) → Some to ≡ floor_in (route r) → Some reason ≡ denied m.floor m.frontier to → Waits c 0 place (Refused reason) m m' → Does (event.Compact c) m m'
  unfolding Does Waits
  compact_refused m' number reason e denies waits = λ z w a sh facts.
      let here = at z w a sh in
      let to : Phase = Waiting 0 place (Refused reason) in
      steps z w c a m' (enters w c to) _ (Called place r) to
      (ap (compacted w c) here ∙ floor_goes w (route r) number (sym e) ∙ ap (floored w c place number) (denial z w a (Some reason) number sh denies)) here (changed-same w.phase c to) (waits z w a sh)

  pub compact_done : (n m' : Machine) (number : ℕ) → Some number ≡ floor_in (route r) → None ≡ denied m.floor m.frontier number → Waits c 0 place (Compacted number) m n → m'.floor ≡ number → m' ≡ record n { floor = m'.floor } → Does (event.Compact c) m m'
  unfolding Does Waits
  compact_done n m' number e denies waits floor same = λ z w a sh facts.
      let here = at z w a sh in
      let to : Phase = Waiting 0 place (Compacted number) in
      let v : World = record w { floor = number; phase = changed w.phase c to } in
      let shown = waits z w a sh in
      steps z w c a m' v _ (Called place r) to
      (ap (compacted w c) here ∙ floor_goes w (route r) number (sym e) ∙ ap (floored w c place number) (denial z w a None number sh denies)) here (changed-same w.phase c to)
      (subst (λ x. Shows z v (last_or_parked (nat_le 0 w.frontier) 0 c place a) x) (sym same) (record {
        capacity = shown.capacity;
        small = shown.small;
        frontier = shown.frontier;
        place = shown.place;
        items = shown.items;
        order = shown.order;
        log = shown.log;
        seats = shown.seats;
        phases = shown.phases;
        parked = shown.parked;
        tracked = shown.tracked;
        low = (let kept = shown.low in let risen = (readable m.floor m.frontier number (sym denies)).0 in let same = sh.floor in omega arith);
        unread = shown.unread;
        floor = floor;
      }))

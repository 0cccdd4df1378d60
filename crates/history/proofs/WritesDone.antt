-- The events of a write do what the definition says.
use Rattle.std.proofs.Common.{◌≡◌, ◌≢◌, ℕ, suc, ◌+◌, ◌<◌, ◌≤◌, true, false, cond, [], ◌∷◌, ◌++◌, length, get_or, set, Option, Some, None, option_map, refl, sym, ap, ◌∙◌, subst, nat_eq, arith, length-append, add-one, get_or-set_same, get_or-set_other}
use Rattle.std.proofs.Math.ListN.{length-set}
use Rattle.std.specs.Option.{option_map_or}
use Rattle.objects.specs.declared.key.Key.{Key}
use Rattle.objects.specs.ShardOf.{shard_of}
use Rattle.requests.specs.declared.request.Request.{Request}
use Rattle.requests.specs.declared.reply.Reply.TheVariants.{Refused, Unchanged}
use Rattle.requests.specs.declared.reply.Reason.{Reason}
use Rattle.requests.specs.declared.reply.Reason.TheVariants.{StoreFull}
use Rattle.requests.specs.declared.verdict.Verdict.{Verdict}
use Rattle.requests.specs.declared.verdict.Verdict.TheVariants.{Refuse, Same, Write}
use Rattle.requests.specs.Change.{Change, kept}
use Rattle.requests.specs.Keys.{key_named}
use Rattle.requests.specs.Verdict.{is_write, verdict}
use Rattle.requests.specs.declared.version.Version.{Version}
use Rattle.versions.specs.Records.{IsAbove, current, newest, version_at}
use Rattle.versions.specs.Shard as versions
use Rattle.versions.specs.Shard.{Shard, pushed}
use Rattle.history.specs.declared.callers.CallerPhases.{CallerPhases}
use Rattle.interleavings.specs.declared.event.Event.TheVariants.{Call, Check, Reserve, Raise}
use Rattle.history.specs.declared.machine.Machine.{Machine}
use Rattle.history.specs.declared.phase.Phase.TheVariants as code
use Rattle.history.specs.declared.phase.Writing.{Writing as CodeWriting}
use Rattle.interleavings.specs.declared.trace.Item.TheVariants as item
use Rattle.interleavings.specs.Log.{Writing, last_write}
use Rattle.history.specs.Mirrors.{Mirrors}
use Rattle.interleavings.specs.Order.{Arrangement, passed, places_at}
use Rattle.interleavings.specs.Step.{called, checked, checked_by, checked_in, drawn_by, enters, judged, raised, reserved}
use Rattle.interleavings.specs.World.{Phase, Idle, Called, Holding, Drawn, Waiting, Size, World, Draw, changed, shard}
use Rattle.history.specs.Replayed.{Does, Enters, Fills, Holds, Keeps, Shows, Stays, Waits, called_in, drops, holding_in, is_idle, named_phase, phase_at, shard_at, with_draw, writing_of, is_dropped, ShowsLog, lot_at, places_in, staying}
use Rattle.interleavings.proofs.Basics.{Compared, same, other, compare, changed-same, changed-other}
use Rattle.history.proofs.Mirrors.{last_is, mirrors_beside, mirrors_drawn, mirrors_pushed, verdict_is}
use Rattle.history.proofs.Showing.{released, shows_entered, shows_holder, shows_passed}
use Rattle.std.proofs.lemmas.Option.{same_Some}
use Rattle.history.proofs.Waiters.{places_of_waiters}
use Rattle.history.proofs.Stepping.{called_is, check_no_write, check_not_called, holding_is, holding_code, idle_is, lt_false, lt_true, none_more, not_idle, nothing, reserve_not_holding, route_of_write, steps}

module _ (m : Machine) (c : ℕ) where
  pub call_nothing : (r : Request) → is_idle (phase_at m.callers c) ≡ false → Does (Call c r) m m
  unfolding Does
  call_nothing r denies = λ z w a sh facts. nothing z w c a m _ (not_idle z w c r (phase_at m.callers c) (w.phase c) denies (sh.phases c)) sh

  pub check_nothing : called_in (phase_at m.callers c) ≡ None → Does (Check c) m m
  unfolding Does
  check_nothing denies = λ z w a sh facts. nothing z w c a m _ (check_not_called z w c (phase_at m.callers c) (w.phase c) denies (sh.phases c)) sh

  pub check_read : (place : ℕ) (r : Request) → called_in (phase_at m.callers c) ≡ Some (place, r) → is_write r ≡ false → Does (Check c) m m
  unfolding Does
  check_read place r phase_is denies = λ z w a sh facts. nothing z w c a m _ (ap (checked z w c) (called_is (phase_at m.callers c) (w.phase c) place r phase_is (sh.phases c)) ∙ check_no_write z w c place r denies) sh

  pub reserve_nothing : holding_in (phase_at m.callers c) ≡ None → Does (Reserve c) m m
  unfolding Does
  reserve_nothing denies = λ z w a sh facts. nothing z w c a m _ (reserve_not_holding z w c (phase_at m.callers c) (w.phase c) denies (sh.phases c)) sh

-- ---- Check
module _ (m : Machine) (c place : ℕ) (r : Request) (k : Key) (s : ℕ) (phase_is : called_in (phase_at m.callers c) ≡ Some (place, r)) (write : is_write r ≡ true) (key : key_named r ≡ Some k)
    (is : s ≡ shard_of k (length m.shards.items)) (lt : s < length m.shards.items) where
  here : (z : Size) (w : World) (a : Arrangement) → Shows z w a m → shard z k ≡ s
  unfolding shard
  here z w a sh = ap (shard_of k) (sym sh.log.count) ∙ sym is

  below : (z : Size) (w : World) (a : Arrangement) → Shows z w a m → s < z.shards
  below z w a sh = let e = sh.log.count in omega arith

  at : (z : Size) (w : World) (a : Arrangement) → Shows z w a m → w.phase c ≡ Called place r
  at z w a sh = called_is (phase_at m.callers c) (w.phase c) place r phase_is (sh.phases c)

  by_key : (z : Size) (w : World) (a : Arrangement) → Shows z w a m → checked z w c (w.phase c) ≡ checked_in z w c place r k (w.holder (shard z k))
  by_key z w a sh = ap (checked z w c) (at z w a sh) ∙ ap (checked_by z w c place r) (route_of_write r k write key)

  holder_is : (z : Size) (w : World) (a : Arrangement) (sh : Shows z w a m) → w.holder (shard z k) ≡ get_or m.holders.items s None
  holder_is z w a sh = ap w.holder (here z w a sh) ∙ sym (sh.seats.same s (below z w a sh))

  pub check_held : (d : ℕ) → get_or m.holders.items s None ≡ Some d → Does (Check c) m m
  unfolding Does
  check_held d held = λ z w a sh facts. nothing z w c a m _ (by_key z w a sh ∙ ap (checked_in z w c place r k) (holder_is z w a sh ∙ held)) sh

  by_verdict : (v : Verdict) → get_or m.holders.items s None ≡ None → v ≡ verdict r (current (shard_at m.shards.items s).records k) → (z : Size) (w : World) (a : Arrangement) → Shows z w a m
      → checked z w c (w.phase c) ≡ judged z w c place k v
  by_verdict v free v_is z w a sh =
      by_key z w a sh ∙ ap (checked_in z w c place r k) (holder_is z w a sh ∙ free)
      ∙ ap (judged z w c place k) (sym (v_is ∙ verdict_is (sh.log.mirrors s (below z w a sh)) k (here z w a sh) r))

  saw_is : (saw : ℕ) → saw ≡ option_map_or (λ p. p.0) (newest (shard_at m.shards.items s).records k) 0 → (z : Size) (w : World) (a : Arrangement) → Shows z w a m → saw ≡ last_write w.log w.drawn k
  saw_is saw e z w a sh = e ∙ last_is (sh.log.mirrors s (below z w a sh)) k (here z w a sh)

  pub check_refused : (m' : Machine) (saw : ℕ) (reason : Reason) → get_or m.holders.items s None ≡ None → Refuse reason ≡ verdict r (current (shard_at m.shards.items s).records k)
      → saw ≡ option_map_or (λ p. p.0) (newest (shard_at m.shards.items s).records k) 0 → Waits c saw place (Refused reason) m m' → Does (Check c) m m'
  unfolding Does Waits
  check_refused m' saw reason free v_is e waits = λ z w a sh facts.
      steps z w c a m' (enters w c (Waiting saw place (Refused reason))) _ (Called place r) (Waiting saw place (Refused reason))
      (by_verdict (Refuse reason) free v_is z w a sh ∙ ap (λ n. enters w c (Waiting n place (Refused reason))) (sym (saw_is saw e z w a sh)))
      (at z w a sh) (changed-same w.phase c (Waiting saw place (Refused reason))) (waits z w a sh)

  pub check_same : (m' : Machine) (saw : ℕ) (o : Rattle.objects.specs.declared.object.Object.Object) → get_or m.holders.items s None ≡ None → Same o ≡ verdict r (current (shard_at m.shards.items s).records k)
      → saw ≡ option_map_or (λ p. p.0) (newest (shard_at m.shards.items s).records k) 0 → Waits c saw place (Unchanged o) m m' → Does (Check c) m m'
  unfolding Does Waits
  check_same m' saw o free v_is e waits = λ z w a sh facts.
      steps z w c a m' (enters w c (Waiting saw place (Unchanged o))) _ (Called place r) (Waiting saw place (Unchanged o))
      (by_verdict (Same o) free v_is z w a sh ∙ ap (λ n. enters w c (Waiting n place (Unchanged o))) (sym (saw_is saw e z w a sh)))
      (at z w a sh) (changed-same w.phase c (Waiting saw place (Unchanged o))) (waits z w a sh)

  pub check_written : (m' : Machine) (change : Change) → get_or m.holders.items s None ≡ None → Write change ≡ verdict r (current (shard_at m.shards.items s).records k)
      → Holds c s (record { place = place; key = k; change = change }) m m' → Does (Check c) m m'
  unfolding Does Holds
  check_written m' change free v_is holds = λ z w a sh facts.
      let t : Writing = record { place = place; key = k; change = change } in
      steps z w c a m' (record w { holder = changed w.holder s (Some c); phase = changed w.phase c (Holding t) }) _ (Called place r) (Holding t)
      (by_verdict (Write change) free v_is z w a sh ∙ ap (λ i. let x : World = record w { holder = changed w.holder i (Some c); phase = changed w.phase c (Holding t) } in x) (here z w a sh))
      (at z w a sh) (changed-same w.phase c (Holding t)) (holds z w a sh)

-- ---- Call
pub call_done : (m : Machine) (c : ℕ) (r : Request) (m' : Machine) (cs : CallerPhases) → is_idle (phase_at m.callers c) ≡ true → Enters m.callers cs c (code.Called m.now_at r)
    → m'.items.items ≡ m.items.items ++ item.Call m.now_at c r ∷ [] → (e : m' ≡ record m { items = m'.items; callers = cs }) → Does (Call c r) m m'
unfolding Does
call_done m c r m' cs phase_is entering is e = λ z w a sh facts.
    let at : w.phase c ≡ Idle = idle_is (phase_at m.callers c) (w.phase c) phase_is (sh.phases c) in
    let next = shows_entered z w a m sh cs c (code.Called m.now_at r) (Called w.now r) entering (ap (λ n. Called n r) (sym sh.place)) (sym (live (phase_at m.callers c) phase_is)) tt in
    steps z w c a m' (called w c r Idle) _ Idle (Called w.now r) (ap (called w c r) at) at (changed-same w.phase c (Called w.now r))
    (subst (λ x. Shows z (called w c r Idle) a x) (sym e) (record {
      capacity = sh.capacity;
      small = sh.small;
      frontier = sh.frontier;
      floor = sh.floor;
      place = sh.place;
      order = sh.order;
      log = sh.log;
      seats = sh.seats;
      phases = next.phases;
      parked = next.parked;
      tracked = next.tracked;
      low = next.low;
      unread = next.unread;
      items = is ∙ ap (λ l. l ++ item.Call m.now_at c r ∷ []) sh.items ∙ ap (λ n. w.trace ++ item.Call n c r ∷ []) sh.place;
    }))
  where
    live : (p : Rattle.history.specs.declared.phase.Phase.Phase) → is_idle p ≡ true → Rattle.history.specs.Replayed.is_dropped p ≡ false
    live code.Idle e = refl
    live (code.Called p q) e = refl
    live (code.Holding t) e = refl
    live (code.Drawn d) e = refl
    live (code.Waiting s p q) e = refl
    live (code.Reading n p q left) e = refl
    live code.Gone e = refl
    live (code.Left d) e = refl
    live code.Dropped e = absurd cc

-- ---- Reserve
module _ (m : Machine) (c : ℕ) (t : CodeWriting) (phase_is : holding_in (phase_at m.callers c) ≡ Some t) where
  stands_at : (z : Size) (w : World) (a : Arrangement) → Shows z w a m → w.phase c ≡ Holding (writing_of t)
  stands_at z w a sh = holding_is (phase_at m.callers c) (w.phase c) t phase_is (sh.phases c)

  pub reserve_drawn : (m' : Machine) (index : ℕ) → index ≡ length m.places.items → index < m.capacity → m'.places.items ≡ m.places.items ++ None ∷ [] → Enters m.callers m'.callers c (with_draw index (phase_at m.callers c))
      → m' ≡ record m { places = m'.places; callers = m'.callers } → Does (Reserve c) m m'
  unfolding Does
  reserve_drawn m' index is room places entering e = λ z w a sh facts.
      let T : Writing = writing_of t in
      let here : w.phase c ≡ Holding T = stands_at z w a sh in
      let count : index ≡ w.drawn = is ∙ sh.log.drawn_is in
      let capacity = sh.capacity in
      let to : Phase = Drawn (record { index = w.drawn; writing = T }) in
      let v : World = record w { drawn = suc w.drawn; phase = changed w.phase c to } in
      let entered : Enters m.callers m'.callers c (code.Drawn (record { index = index; writing = t })) = subst (λ p. Enters m.callers m'.callers c (with_draw index p)) (holding_code (phase_at m.callers c) t phase_is) entering in
      let next = shows_entered z w a m sh m'.callers c (code.Drawn (record { index = index; writing = t })) to entered (ap (λ i. let d : Draw = record { index = i; writing = T } in Drawn d) (sym count))
      (sym (ap is_dropped (holding_code (phase_at m.callers c) t phase_is))) tt in
      let log : ShowsLog z w.log (suc w.drawn) m'.places.items m.shards.items m.compacted = record {
        drawn_is = ap length places ∙ length-append m.places.items (None ∷ []) ∙ add-one (length m.places.items) ∙ ap suc sh.log.drawn_is;
        filled = λ i. ap (λ l. get_or l i None) places ∙ none_more m.places.items i ∙ sh.log.filled i;
        count = sh.log.count;
        mirrors = λ s lt. mirrors_drawn (sh.log.mirrors s lt) (facts.above w.drawn (omega arith));
        floors = sh.log.floors;
      } in
      steps z w c a m' v _ (Holding T) to (ap (reserved z w c) here ∙ ap (drawn_by z w c T) (lt_true w.drawn z.capacity (omega arith))) here (changed-same w.phase c to)
      (subst (λ x. Shows z v a x) (sym e) (record {
        capacity = sh.capacity;
        small = sh.small;
        frontier = sh.frontier;
        floor = sh.floor;
        place = sh.place;
        items = sh.items;
        order = sh.order;
        seats = sh.seats;
        log = log;
        phases = next.phases;
        parked = next.parked;
        tracked = next.tracked;
        low = next.low;
        unread = next.unread;
      }))

  pub reserve_full : (n m' : Machine) (s : ℕ) → s ≡ shard_of t.key (length m.shards.items) → s < length n.holders.items → m.capacity ≤ length m.places.items → Waits c m.capacity t.place (Refused StoreFull) m n
      → m'.holders.items ≡ set n.holders.items s None → m' ≡ record n { holders = m'.holders } → Does (Reserve c) m m'
  unfolding Does Waits shard
  reserve_full n m' s is lt full waits seats e = λ z w a sh facts.
      let T : Writing = writing_of t in
      let here : w.phase c ≡ Holding T = stands_at z w a sh in
      let drawn = sh.log.drawn_is in
      let capacity = sh.capacity in
      let to : Phase = Waiting z.capacity t.place (Refused StoreFull) in
      let from : Phase = Waiting m.capacity t.place (Refused StoreFull) in
      let shown = waits z w a sh in
      let u : World = record w { holder = changed w.holder s None; phase = changed w.phase c from } in
      let own : s ≡ shard z t.key = is ∙ ap (shard_of t.key) sh.log.count in
      let moved_to : record w { holder = changed w.holder (shard z t.key) None; phase = changed w.phase c to } ≡ u =
      ap (λ i. let x : World = record w { holder = changed w.holder i None; phase = changed w.phase c to } in x) (sym own)
      ∙ ap (λ i. let x : World = record w { holder = changed w.holder s None; phase = changed w.phase c (Waiting i t.place (Refused StoreFull)) } in x) (sym capacity) in
      steps z w c a m' u _ (Holding T) from (ap (reserved z w c) here ∙ ap (drawn_by z w c T) (lt_false w.drawn z.capacity (omega arith)) ∙ moved_to) here (changed-same w.phase c from)
      (released z (record w { phase = changed w.phase c from }) _ n shown m' s None (let k = shown.seats.count in omega arith) seats e)

-- ---- Raise
filled_at : (o : Option Writing) (place : ℕ) → Some place ≡ option_map (λ t. t.place) o → (t : Writing) × ((o ≡ Some t) × (t.place ≡ place))
filled_at None place e = absurd cc
filled_at (Some t) place e = (t, (refl, sym (same_Some _ _ e)))

not_filled : (o : Option Writing) → None ≡ option_map (λ (t : Writing). t.place) o → o ≡ None
not_filled None e = refl
not_filled (Some t) e = absurd cc

pub raise_nothing : (m : Machine) → get_or m.places.items m.frontier None ≡ None → Does Raise m m
unfolding Does
raise_nothing m none = λ z w a sh facts.
    let empty : w.log w.frontier ≡ None = not_filled (w.log w.frontier) (sym none ∙ sh.log.filled m.frontier ∙ ap (λ i. option_map (λ (t : Writing). t.place) (w.log i)) sh.frontier) in
    subst (λ o. Shows z (raised w o) (passed (suc w.frontier) o a) m) (sym empty) sh

pub raise_done : (m m' : Machine) (place : ℕ) → get_or m.places.items m.frontier None ≡ Some place
    → m'.order.items ≡ m.order.items ++ place ∷ places_in (staying (drops m.callers) (lot_at m.parking (m.frontier + 1))) → ((n : ℕ) → lot_at m'.parking n ≡ cond (nat_eq n (m.frontier + 1)) [] (lot_at m.parking n))
    → m'.frontier ≡ m.frontier + 1 → m' ≡ record m { order = m'.order; parking = m'.parking; frontier = m'.frontier } → Does Raise m m'
unfolding Does
raise_done m m' place found order lots front e = λ z w a sh facts.
    let f = filled_at (w.log w.frontier) place (sym found ∙ sh.log.filled m.frontier ∙ ap (λ i. option_map (λ (t : Writing). t.place) (w.log i)) sh.frontier) in
    let next : m.frontier + 1 ≡ suc w.frontier = add-one m.frontier ∙ ap suc sh.frontier in
    let v : World = record w { frontier = suc w.frontier } in
    subst (λ o. Shows z (raised w o) (passed (suc w.frontier) o a) m') (sym f.1.0) (subst (λ x. Shows z v (passed (suc w.frontier) (Some f.0) a) x) (sym e) (record {
      capacity = sh.capacity;
      small = sh.small;
      floor = sh.floor;
      place = sh.place;
      items = sh.items;
      log = sh.log;
      seats = sh.seats;
      phases = sh.phases;
      tracked = sh.tracked;
      low = sh.low;
      unread = sh.unread;
      frontier = front ∙ next;
      order = order
          ∙ ap (λ l. l ++ place ∷ places_in (staying (drops m.callers) (lot_at m.parking (m.frontier + 1)))) sh.order
          ∙ ap (λ l. a.order ++ place ∷ places_in l) (sym (sh.parked (m.frontier + 1)))
          ∙ ap (λ l. a.order ++ place ∷ l) (sym (places_of_waiters (m.frontier + 1) a.parked))
          ∙ ap (λ n. a.order ++ place ∷ places_at n a.parked) next
          ∙ ap (λ p. a.order ++ p ∷ places_at (suc w.frontier) a.parked) (sym f.1.1);
      parked = λ n. shows_passed z w a m sh m'.parking (suc w.frontier) (λ i. lots i ∙ ap (λ j. cond (nat_eq i j) [] (lot_at m.parking i)) next) n;
    }))

-- ---- Publish
pub fills_by : (m m' : Machine) (s i n place : ℕ) (v : Version) (sv : Shard) → s < length m.shards.items → s < length m.holders.items → i < length m.places.items → n ≡ suc i → IsAbove (shard_at m.shards.items s).records n
    → sv ≡ pushed (shard_at m.shards.items s) n v → m'.shards.items ≡ set m.shards.items s sv → m'.places.items ≡ set m.places.items i (Some place) → m'.holders.items ≡ set m.holders.items s None
    → m' ≡ record m { shards = m'.shards; places = m'.places; holders = m'.holders } → Fills s i place v m m'
unfolding Fills
fills_by m m' s i n place v sv lt seat small number free sv_is shards places seats e = λ z w a t sh own v_is here drawn empty none.
    let below : s < z.shards = (let k = sh.log.count in omega arith) in
    let free' : IsAbove (shard_at m.shards.items s).records (suc i) = subst (λ x. IsAbove (shard_at m.shards.items s).records x) number free in
    let sv_at : shard_at m'.shards.items s ≡ sv = ap (λ l. get_or l s versions.opening) shards ∙ get_or-set_same m.shards.items s sv versions.opening lt in
    let log : ShowsLog z (changed w.log i (Some t)) w.drawn m'.places.items m'.shards.items m.compacted = record {
      drawn_is = ap length places ∙ length-set m.places.items i (Some place) ∙ sh.log.drawn_is;
      filled = λ j. ap (λ l. get_or l j None) places ∙ by_place z w a sh t own j (compare j i);
      count = ap length shards ∙ length-set m.shards.items s sv ∙ sh.log.count;
      mirrors = λ q lt'. by_shard z w a sh t v_is here drawn empty none free' below sv_at q lt' (compare q s);
      floors = λ q lt'. by_floor z w a sh below sv_at q lt' (compare q s);
    } in
    subst (λ x. Shows z (record w { log = changed w.log i (Some t); holder = changed w.holder s None }) a x) (sym e) (record {
      capacity = sh.capacity;
      small = sh.small;
      frontier = sh.frontier;
      floor = sh.floor;
      place = sh.place;
      items = sh.items;
      order = sh.order;
      phases = sh.phases;
      parked = sh.parked;
      tracked = sh.tracked;
      low = sh.low;
      unread = sh.unread;
      log = log;
      seats = shows_holder z w a m sh m'.holders.items s None below seats;
    })
  where
    by_place : (z : Size) (w : World) (a : Arrangement) → Shows z w a m → (t : Writing) → t.place ≡ place → (j : ℕ) → Compared j i → get_or (set m.places.items i (Some place)) j None ≡ option_map (λ (t : Writing). t.place) (changed w.log i (Some t) j)
    by_place z w a sh t own j (same x b) =
        ap (λ k. get_or (set m.places.items i (Some place)) k None) x ∙ get_or-set_same m.places.items i (Some place) None small ∙ ap Some (sym own)
        ∙ ap (option_map (λ (t : Writing). t.place)) (sym (ap (changed w.log i (Some t)) x ∙ changed-same w.log i (Some t)))
    by_place z w a sh t own j (other x b) =
        get_or-set_other m.places.items i j (Some place) None x ∙ sh.log.filled j ∙ ap (option_map (λ (t : Writing). t.place)) (sym (changed-other w.log i (Some t) j x))

    other_at : (q : ℕ) → q ≢ s → shard_at m'.shards.items q ≡ shard_at m.shards.items q
    other_at q ne = ap (λ l. get_or l q versions.opening) shards ∙ get_or-set_other m.shards.items s q sv versions.opening ne

    by_shard : (z : Size) (w : World) (a : Arrangement) → Shows z w a m → (t : Writing) → v ≡ version_at t.key (kept t.change (suc i)) → shard z t.key ≡ s → i < w.drawn → w.log i ≡ None → ((j : ℕ) → w.drawn ≤ j → w.log j ≡ None)
        → IsAbove (shard_at m.shards.items s).records (suc i) → s < z.shards → shard_at m'.shards.items s ≡ sv → (q : ℕ) → q < z.shards → Compared q s
        → Mirrors z (changed w.log i (Some t)) w.drawn q (shard_at m'.shards.items q).records (shard_at m'.shards.items q).floor
    by_shard z w a sh t v_is here drawn empty none free' below sv_at q lt' (same x b) =
        let old = shard_at m.shards.items s in
        let next = mirrors_pushed (sh.log.mirrors s below) i t empty drawn none here free' n v number (v_is ∙ ap (λ k. version_at t.key (kept t.change k)) (sym number)) in
        let P : Shard → Type 0 = λ y. Mirrors z (changed w.log i (Some t)) w.drawn s y.records y.floor in
        let Q : ℕ → Type 0 = λ y. Mirrors z (changed w.log i (Some t)) w.drawn y (shard_at m'.shards.items y).records (shard_at m'.shards.items y).floor in
        subst Q (sym x) (subst P (sym (sv_at ∙ sv_is)) next)
    by_shard z w a sh t v_is here drawn empty none free' below sv_at q lt' (other x b) =
        let P : Shard → Type 0 = λ y. Mirrors z (changed w.log i (Some t)) w.drawn q y.records y.floor in
        subst P (sym (other_at q x)) (mirrors_beside (sh.log.mirrors q lt') i t empty (λ f. x (sym f ∙ here)))

    by_floor : (z : Size) (w : World) (a : Arrangement) → Shows z w a m → s < z.shards → shard_at m'.shards.items s ≡ sv → (q : ℕ) → q < z.shards → Compared q s → (shard_at m'.shards.items q).floor ≡ m.compacted
    by_floor z w a sh below sv_at q lt' (same x b) = ap (λ k. (shard_at m'.shards.items k).floor) x ∙ ap (λ (y : Shard). y.floor) (sv_at ∙ sv_is) ∙ sh.log.floors s below
    by_floor z w a sh below sv_at q lt' (other x b) = ap (λ (y : Shard). y.floor) (other_at q x) ∙ sh.log.floors q lt'

-- room was made in a shard, or none was got
pub roomed : (m m' : Machine) (s : ℕ) (sv : Shard) → sv.records ≡ (shard_at m.shards.items s).records → sv.floor ≡ (shard_at m.shards.items s).floor → s < length m.shards.items → m'.shards.items ≡ set m.shards.items s sv
    → m' ≡ record m { shards = m'.shards } → Stays m m'
unfolding Keeps Stays
roomed m m' s sv records floor lt shards e = (
  (
    ap (λ (x : Machine). x.compacted) e,
    λ z w a sh. subst (λ x. Shows z w a x) (sym e) (record {
      capacity = sh.capacity;
      small = sh.small;
      frontier = sh.frontier;
      floor = sh.floor;
      place = sh.place;
      items = sh.items;
      order = sh.order;
      seats = sh.seats;
      phases = sh.phases;
      parked = sh.parked;
      tracked = sh.tracked;
      low = sh.low;
      unread = sh.unread;
      log = record {
        drawn_is = sh.log.drawn_is;
        filled = sh.log.filled;
        count = ap length shards ∙ length-set m.shards.items s sv ∙ sh.log.count;
        mirrors = λ q lt'. subst (λ rs. Mirrors z w.log w.drawn q rs (shard_at m'.shards.items q).floor) (sym (by_records q (compare q s))) (subst (λ f. Mirrors z w.log w.drawn q (shard_at m.shards.items q).records f) (sym (by_floor q (compare q s))) (sh.log.mirrors q lt'));
        floors = λ q lt'. by_floor q (compare q s) ∙ sh.log.floors q lt';
      };
    }),
  ),
  λ c. ap (λ (x : Machine). named_phase x.callers c) e,
)
  where
    own_at : shard_at m'.shards.items s ≡ sv
    own_at = ap (λ l. get_or l s versions.opening) shards ∙ get_or-set_same m.shards.items s sv versions.opening lt

    other_at : (q : ℕ) → q ≢ s → shard_at m'.shards.items q ≡ shard_at m.shards.items q
    other_at q ne = ap (λ l. get_or l q versions.opening) shards ∙ get_or-set_other m.shards.items s q sv versions.opening ne

    by_records : (q : ℕ) → Compared q s → (shard_at m'.shards.items q).records ≡ (shard_at m.shards.items q).records
    by_records q (same x b) = ap (λ k. (shard_at m'.shards.items k).records) x ∙ ap (λ (y : Shard). y.records) own_at ∙ records ∙ ap (λ k. (shard_at m.shards.items k).records) (sym x)
    by_records q (other x b) = ap (λ (y : Shard). y.records) (other_at q x)

    by_floor : (q : ℕ) → Compared q s → (shard_at m'.shards.items q).floor ≡ (shard_at m.shards.items q).floor
    by_floor q (same x b) = ap (λ k. (shard_at m'.shards.items k).floor) x ∙ ap (λ (y : Shard). y.floor) own_at ∙ floor ∙ ap (λ k. (shard_at m.shards.items k).floor) (sym x)
    by_floor q (other x b) = ap (λ (y : Shard). y.floor) (other_at q x)

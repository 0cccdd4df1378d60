-- What a machine shows after each piece of an event.
use Rattle.std.proofs.Common.{◌≡◌, ℕ, zero, suc, ◌<◌, ◌≤◌, true, false, cond, List, [], ◌∷◌, ◌++◌, length, get_or, set, Option, Some, None, option_map, refl, sym, ap, ◌∙◌, subst, nat_eq, nat_le, arith, Result, Ok, Err, OnOk, OnErr, IfOk, IfSome, is_some}
use Rattle.std.proofs.lemmas.Option.{same_Some}
use Rattle.std.specs.FinMap as map
use Rattle.requests.specs.declared.request.Request.{Request}
use Rattle.requests.specs.declared.reply.Reply.{Reply}
use Rattle.history.specs.declared.machine.Machine.{Machine}
use Rattle.history.specs.declared.phase.Phase.{Phase as CodePhase}
use Rattle.history.specs.declared.phase.Phase.TheVariants as code
use Rattle.interleavings.specs.declared.trace.Item.TheVariants as item
use Rattle.plain_store.specs.Store.{denied}
use Rattle.plain_store.proofs.Denials.{readable}
use Rattle.interleavings.specs.Facts.{Facts}
use Rattle.interleavings.specs.Order.{Arrangement, last_or_parked, with_last}
use Rattle.interleavings.specs.Step.{begun, with_reply}
use Rattle.interleavings.specs.World.{Phase, Idle, Called, Holding, Waiting, Reading, Size, World, changed}
use Rattle.history.specs.Replayed.{Begins, Enters, Holds, IsShown, Keeps, Settles, Shows, Stands, Stays, Tells, Waits, begun_phase, drops, is_called, is_dropped, is_replying, is_undecided, lot_at, named_phase, phase_at, staying, writing_of}
use Rattle.history.specs.declared.phase.Writing.{Writing as CodeWriting}
use Rattle.interleavings.proofs.Basics.{Least, atmost, above, least}
use Rattle.history.proofs.Showing.{shows_entered, shows_holder, shows_parked}

pub stays_same : (m : Machine) → Stays m m
unfolding Keeps Stays
stays_same m = ((refl, λ z w a sh. sh), λ c. refl)

-- the same, piece by piece
pub stays_by : (m m' : Machine) → m'.items.items ≡ m.items.items → m'.order.items ≡ m.order.items → m'.places.items ≡ m.places.items → ((n : ℕ) → lot_at m'.parking n ≡ lot_at m.parking n)
    → m' ≡ record m { items = m'.items; order = m'.order; places = m'.places; parking = m'.parking } → Stays m m'
unfolding Keeps Stays
stays_by m m' items order places lots is = (
  (
    ap (λ (x : Machine). x.compacted) is,
    λ z w a sh. subst (λ x. Shows z w a x) (sym is) (record {
      capacity = sh.capacity;
      small = sh.small;
      frontier = sh.frontier;
      floor = sh.floor;
      place = sh.place;
      seats = sh.seats;
      phases = sh.phases;
      items = items ∙ sh.items;
      order = order ∙ sh.order;
      log = subst (λ ps. Rattle.history.specs.Replayed.ShowsLog z w.log w.drawn ps m.shards.items m.compacted) (sym places) sh.log;
      parked = λ n. sh.parked n ∙ ap (staying (drops m.callers)) (sym (lots n));
      tracked = sh.tracked;
      low = sh.low;
      unread = sh.unread;
    }),
  ),
  λ c. ap (λ (x : Machine). named_phase x.callers c) is,
)

pub undecided_live : (p : CodePhase) → is_undecided p ≡ true → is_dropped p ≡ false
undecided_live code.Dropped e = absurd cc
undecided_live _ e = refl

pub called_is_undecided : (p : CodePhase) → is_called p ≡ true → is_undecided p ≡ true
called_is_undecided (code.Called p q) e = refl
called_is_undecided _ e = absurd cc

-- ---- what is read is kept
pub kept_now : (m : Machine) → Stands m → m.compacted ≤ m.frontier
kept_now m st =
    let sh : Shows st.0 st.1.0 st.1.1.0 m = st.1.1.1.0 in
    let facts : Facts st.0 st.1.0 = st.1.1.1.1 in
    let low = sh.low in
    let standing = facts.standing in
    let same = sh.frontier in
    omega arith

pub kept_at : (m : Machine) (n : ℕ) → Stands m → denied m.floor m.frontier n ≡ None → m.compacted ≤ n
kept_at m n st allowed =
    let sh : Shows st.0 st.1.0 st.1.1.0 m = st.1.1.1.0 in
    let low = sh.low in
    let same = sh.floor in
    let from = (readable m.floor m.frontier n allowed).0 in
    omega arith

-- ---- into the order, or parked
pub settled_now : (m m' : Machine) (saw c place : ℕ) → saw ≤ m.frontier → m'.order.items ≡ m.order.items ++ place ∷ [] → m' ≡ record m { order = m'.order } → Settles saw c place m m'
unfolding Settles
settled_now m m' saw c place le order is = λ z w a sh. by z w a sh (least saw w.frontier)
  where
    by : (z : Size) (w : World) (a : Arrangement) → Shows z w a m → Least saw w.frontier → Shows z w (last_or_parked (nat_le saw w.frontier) saw c place a) m'
    by z w a sh (atmost le e) = subst (λ b. Shows z w (last_or_parked b saw c place a) m') (sym e) (subst (λ x. Shows z w (with_last a place) x) (sym is) (record {
      capacity = sh.capacity;
      small = sh.small;
      frontier = sh.frontier;
      floor = sh.floor;
      place = sh.place;
      items = sh.items;
      log = sh.log;
      seats = sh.seats;
      phases = sh.phases;
      parked = sh.parked;
      tracked = sh.tracked;
      low = sh.low;
      unread = sh.unread;
      order = order ∙ ap (λ l. l ++ place ∷ []) sh.order;
    }))
    by z w a sh (above lt e) = let f = sh.frontier in absurd (omega arith)

pub settled_later : (m m' : Machine) (saw c place : ℕ) → m.frontier < saw → is_undecided (phase_at m.callers c) ≡ true
    → ((n : ℕ) → lot_at m'.parking n ≡ lot_at m.parking n ++ cond (nat_eq n saw) (record { caller = c; place = place } ∷ []) []) → m' ≡ record m { parking = m'.parking } → Settles saw c place m m'
unfolding Settles
settled_later m m' saw c place lt live lots is = λ z w a sh. by z w a sh (least saw w.frontier)
  where
    by : (z : Size) (w : World) (a : Arrangement) → Shows z w a m → Least saw w.frontier → Shows z w (last_or_parked (nat_le saw w.frontier) saw c place a) m'
    by z w a sh (atmost le e) = let f = sh.frontier in absurd (omega arith)
    by z w a sh (above x e) = subst (λ b. Shows z w (last_or_parked b saw c place a) m') (sym e) (subst (λ x. Shows z w (last_or_parked false saw c place a) x) (sym is) (record {
      capacity = sh.capacity;
      small = sh.small;
      frontier = sh.frontier;
      floor = sh.floor;
      place = sh.place;
      items = sh.items;
      order = sh.order;
      log = sh.log;
      seats = sh.seats;
      phases = sh.phases;
      tracked = sh.tracked;
      low = sh.low;
      unread = sh.unread;
      parked = shows_parked z w a m sh m'.parking saw c place (undecided_live (phase_at m.callers c) live) lots;
    }))

-- ---- a caller waits, holds its shard, reads, gets its reply
pub waits_by : (m s m' : Machine) (saw c place : ℕ) (reply : Reply) → is_undecided (phase_at m.callers c) ≡ true → Settles saw c place m s → s.callers ≡ m.callers → Enters s.callers m'.callers c (code.Waiting saw place reply)
    → m' ≡ record s { callers = m'.callers } → Waits c saw place reply m m'
unfolding Settles Waits
waits_by m s m' saw c place reply live settles same entering is = λ z w a sh.
    let live' : drops s.callers c ≡ false = ap (λ cs. drops cs c) same ∙ undecided_live (phase_at m.callers c) live in
    subst (λ x. Shows z (enters' w) (last_or_parked (nat_le saw w.frontier) saw c place a) x) (sym is)
    (shows_entered z w _ s (settles z w a sh) m'.callers c (code.Waiting saw place reply) (Waiting saw place reply) entering refl (sym live') tt)
  where
    enters' : World → World
    enters' w = record w { phase = changed w.phase c (Waiting saw place reply) }

pub holds_by : (m m' : Machine) (c s : ℕ) (t : CodeWriting) → is_called (phase_at m.callers c) ≡ true → s < length m.holders.items → m'.holders.items ≡ set m.holders.items s (Some c) → Enters m.callers m'.callers c (code.Holding t)
    → m' ≡ record m { holders = m'.holders; callers = m'.callers } → Holds c s (writing_of t) m m'
unfolding Holds
holds_by m m' c s t phase_is lt seats entering is = λ z w a sh.
    let live : drops m.callers c ≡ false = undecided_live (phase_at m.callers c) (called_is_undecided (phase_at m.callers c) phase_is) in
    let next = shows_entered z w a m sh m'.callers c (code.Holding t) (Holding (writing_of t)) entering refl (sym live) tt in
    subst (λ x. Shows z (record w { holder = changed w.holder s (Some c); phase = changed w.phase c (Holding (writing_of t)) }) a x) (sym is) (record {
      capacity = sh.capacity;
      small = sh.small;
      frontier = sh.frontier;
      floor = sh.floor;
      place = sh.place;
      items = sh.items;
      order = sh.order;
      log = sh.log;
      seats = shows_holder z w a m sh m'.holders.items s (Some c) (let n = sh.seats.count in omega arith) seats;
      phases = next.phases;
      parked = next.parked;
      tracked = next.tracked;
      low = next.low;
      unread = next.unread;
    })

pub begins_by : (m m' : Machine) (c place number left : ℕ) → is_called (phase_at m.callers c) ≡ true → m.compacted ≤ number → m'.order.items ≡ m.order.items ++ place ∷ [] → Enters m.callers m'.callers c (begun_phase number left (phase_at m.callers c))
    → m' ≡ record m { order = m'.order; callers = m'.callers } → Begins c place number left m m'
unfolding Begins
begins_by m m' c place number left phase_is kept order entering is = λ z w a r parts sh at count.
    let next = shows_entered z w a m sh m'.callers c (begun_phase number left (phase_at m.callers c)) (Reading number place r parts map.empty) entering
    (reads (phase_at m.callers c) phase_is (w.phase c) (sh.phases c) r place parts at count) (same_drops (phase_at m.callers c)) kept in
    subst (λ x. Shows z (begun w c number place r parts) (with_last a place) x) (sym is) (record {
      capacity = sh.capacity;
      small = sh.small;
      frontier = sh.frontier;
      floor = sh.floor;
      place = sh.place;
      items = sh.items;
      log = sh.log;
      seats = sh.seats;
      order = order ∙ ap (λ l. l ++ place ∷ []) sh.order;
      phases = next.phases;
      parked = next.parked;
      tracked = next.tracked;
      low = next.low;
      unread = next.unread;
    })
  where
    same_drops : (p : CodePhase) → is_dropped (begun_phase number left p) ≡ is_dropped p
    same_drops (code.Called p q) = refl
    same_drops _ = refl

    reads : (p : CodePhase) → is_called p ≡ true → (ph : Phase) → IsShown p ph → (r : Request) (at : ℕ) (parts : List ℕ) → ph ≡ Called at r → length parts ≡ left → IsShown (begun_phase number left p) (Reading number at r parts map.empty)
    reads (code.Called n q) e ph h r at parts is count = let x : at ≡ n = cc in let y : r ≡ q = cc in (parts, (map.empty, (ap (λ i. Reading number i r parts map.empty) x ∙ ap (λ i. Reading number n i parts map.empty) y, count)))
    reads _ e ph h r at parts is count = absurd cc

pub replying_live : (p : CodePhase) → is_replying p ≡ true → is_dropped p ≡ false
replying_live code.Dropped e = absurd cc
replying_live _ e = refl

pub tells_by : (m m' : Machine) (c : ℕ) (reply : Reply) → is_replying (phase_at m.callers c) ≡ true → m'.items.items ≡ m.items.items ++ item.Reply m.now_at c reply ∷ [] → Enters m.callers m'.callers c code.Idle
    → m' ≡ record m { items = m'.items; callers = m'.callers } → Tells c reply m m'
unfolding Tells
tells_by m m' c reply phase_is items entering is = λ z w a sh.
    let next = shows_entered z w a m sh m'.callers c code.Idle Idle entering refl (sym (replying_live (phase_at m.callers c) phase_is)) tt in
    subst (λ x. Shows z (with_reply w c reply) a x) (sym is) (record {
      capacity = sh.capacity;
      small = sh.small;
      frontier = sh.frontier;
      floor = sh.floor;
      place = sh.place;
      order = sh.order;
      log = sh.log;
      seats = sh.seats;
      items = items ∙ ap (λ l. l ++ item.Reply m.now_at c reply ∷ []) sh.items ∙ ap (λ n. w.trace ++ item.Reply n c reply ∷ []) sh.place;
      phases = next.phases;
      parked = next.parked;
      tracked = next.tracked;
      low = next.low;
      unread = next.unread;
    })

-- ---- results
pub on_err : {A E : Type 0} (P : Type 0) (r : Result A E) → P → OnErr r P
on_err P (Ok x) p = tt
on_err P (Err e) p = p

pub on_err_by : {A E : Type 0} (P Q : Type 0) (r : Result A E) → (P → Q) → OnErr r P → OnErr r Q
on_err_by P Q (Ok x) f p = tt
on_err_by P Q (Err e) f p = f p

pub on_ok_by : {A E : Type 0} (P Q : Type 0) (r : Result A E) → (P → Q) → OnOk r P → OnOk r Q
on_ok_by P Q (Ok x) f p = f p
on_ok_by P Q (Err e) f p = tt

pub some_of : {A : Type 0} (o : Option A) → is_some o ≡ true → (x : A) × (o ≡ Some x)
some_of None e = absurd cc
some_of (Some x) e = (x, refl)

pub none_of : {A : Type 0} (o : Option A) → is_some o ≡ false → o ≡ None
none_of None e = refl
none_of (Some x) e = absurd cc

pub map_none : {A B : Type 0} (f : A → B) (o : Option A) → None ≡ option_map f o → o ≡ None
map_none f None e = refl
map_none f (Some x) e = absurd cc

pub map_some : {A B : Type 0} (f : A → B) (o : Option A) (y : B) → Some y ≡ option_map f o → (x : A) × ((o ≡ Some x) × (y ≡ f x))
map_some f None y e = absurd cc
map_some f (Some x) y e = (x, (refl, same_Some _ _ e))

pub if_some_at : {A : Type 0} (P : A → Type 0) (o : Option A) (x : A) → o ≡ Some x → IfSome o P → P x
if_some_at P o x e h = let h' : IfSome (Some x) P = subst (λ v. IfSome v P) e h in h'

-- a shard has a seat
pub seat_of : (m : Machine) (s : ℕ) → Stands m → s < length m.shards.items → s < length m.holders.items
seat_of m s st lt = let sh : Shows st.0 st.1.0 st.1.1.0 m = st.1.1.1.0 in let a = sh.seats.count in let b = sh.log.count in omega arith

get_within : {A : Type 0} (xs : List A) (i : ℕ) (d e : A) → i < length xs → get_or xs i d ≡ get_or xs i e
get_within [] i d e lt = absurd (omega arith)
get_within (x ∷ xs) zero d e lt = refl
get_within (x ∷ xs) (suc i) d e lt = get_within xs i d e (omega arith)

-- an element, whatever stands for one that is missing
pub get_any : {A : Type 0} (xs : List A) (i : ℕ) (x d : A) → i < length xs → x ≡ get_or xs i x → x ≡ get_or xs i d
get_any xs i x d lt e = e ∙ get_within xs i x d lt

pub if_ok_by : {A E : Type 0} (P Q : A → Type 0) (r : Result A E) → ((x : A) → P x → Q x) → IfOk r P → IfOk r Q
if_ok_by P Q (Ok x) f p = f x p
if_ok_by P Q (Err e) f p = tt

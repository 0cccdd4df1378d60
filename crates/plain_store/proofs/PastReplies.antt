-- The replies to lists at a number and to compactions.
use Rattle.std.proofs.Common.{◌≡◌, ◌≤◌, ◌<◌, ◌+◌, ◌==◌, ℕ, Bool, true, false, cond, List, [], ◌∷◌, ◌++◌, ◌⊎◌, inl, inr, Option, Some, None, refl, sym, ap, subst, ◌∙◌, arith}
use Rattle.std.specs.Prelude.{nat_lt}
use Rattle.std.specs.List.{Contains}
use Rattle.std.proofs.lemmas.Bool.Decides.{nat_tests}
use Rattle.std.proofs.lemmas.List.Elements.{Contains-append_left, Contains-append_right, Contains-push}
use Rattle.std.specs.FinMap as map
use Rattle.std.proofs.lemmas.Option.{same_Some}
use Rattle.objects.specs.declared.key.Key.{Key}
use Rattle.objects.specs.declared.kind.Kind.{Kind}
use Rattle.objects.specs.declared.object.Object.{Object}
use Rattle.requests.specs.declared.request.Request.{Request}
use Rattle.requests.specs.declared.request.Request.TheVariants as request
use Rattle.requests.specs.declared.request.Request.TheVariants.{Compact}
use Rattle.requests.specs.declared.reply.Reply.{Reply}
use Rattle.requests.specs.declared.reply.Reply.TheVariants.{Compacted, Listed, Refused}
use Rattle.requests.specs.declared.reply.Reason.{Reason}
use Rattle.requests.specs.declared.reply.Reason.TheVariants.{Expired, StoreFull, TooLarge}
use Rattle.requests.specs.declared.verdict.Verdict.{Verdict}
use Rattle.requests.specs.declared.verdict.Verdict.TheVariants.{Refuse, Same, Write}
use Rattle.requests.specs.Change.{accepted, stamp}
use Rattle.requests.specs.Verdict.{verdict}
use Rattle.plain_store.specs.Past.{WasAt, WasCompactedAbove, asked, asked_by}
use Rattle.plain_store.specs.Route.{Route, compacts, gets, lists, lists_at, route, writes}
use Rattle.plain_store.specs.Run.{after, exchanges}
use Rattle.plain_store.specs.Store.{Store, carried_out, collection, compacted_to, denied, listed_at, map_at, opening, routed, step, with_change, with_floor}
use Rattle.plain_store.proofs.Denials.{above_when_large, below_when_expired, denied_above, denied_below, not_denied, readable}
use Rattle.plain_store.proofs.Past.{IsSound, counter_run, counter_step, map_raised, map_run, present, sound_in_run, sound_run}
use Rattle.plain_store.proofs.Routes.{is_compaction}
use Rattle.plain_store.proofs.Steps.{compaction_step, list_at_step, list_step}

-- ---- lists

-- the reply to a list of a version has what there was at it
record IsOf (s : Store) (kind : Kind) (namespace : List ℕ) (os : List Object) (n : ℕ) : Type 0 where
  are : os ≡ collection (map_at s n) kind namespace
  from : s.floor ≤ n
  upto : n ≤ s.counter

listed_now : (s : Store) (kind : Kind) (namespace : List ℕ) (os : List Object) (n : ℕ) → IsSound s → Listed (collection s.objects kind namespace) s.counter ≡ Listed os n → IsOf s kind namespace os n
listed_now s kind namespace os n sound is =
    let revision : s.counter ≡ n = cc in
    let items : collection s.objects kind namespace ≡ os = cc in
    subst (IsOf s kind namespace os) revision (record {
      are = sym items ∙ ap (λ m. collection m kind namespace) (sym (present s sound));
      from = sound.floor;
      upto = omega arith;
    })

listed_then : (s : Store) (kind : Kind) (namespace : List ℕ) (os : List Object) (exact n : ℕ) (denial : Option Reason) → denied s.floor s.counter exact ≡ denial
    → listed_at exact (collection (map_at s exact) kind namespace) denial ≡ Listed os n → IsOf s kind namespace os n
listed_then s kind namespace os exact n (Some reason) denial is = absurd cc
listed_then s kind namespace os exact n None denial is =
    let revision : exact ≡ n = cc in
    let items : collection (map_at s exact) kind namespace ≡ os = cc in
    let both = readable s.floor s.counter exact denial in
    subst (IsOf s kind namespace os) revision (record { are = sym items; from = both.0; upto = both.1 })

listed_by : (s : Store) (kind : Kind) (namespace : List ℕ) (exact : ℕ) (os : List Object) (n : ℕ) → IsSound s → (step s (request.List kind namespace exact)).1 ≡ Listed os n → IsOf s kind namespace os n
unfolding step route
listed_by s kind namespace exact os n sound is = by (exact == 0) is
  where
    by : (b : Bool) → (routed s (request.List kind namespace exact) (cond b (lists kind namespace) (lists_at kind namespace exact))).1 ≡ Listed os n → IsOf s kind namespace os n
    by true now = listed_now s kind namespace os n sound now
    by false then_is = listed_then s kind namespace os exact n (denied s.floor s.counter exact) refl then_is

pub one_version : (capacity : ℕ) (first more : List Request) (kind : Kind) (namespace : List ℕ) (one other : ℕ) (os ps : List Object) (n : ℕ)
    → let s = after (opening capacity) first in (step s (request.List kind namespace one)).1 ≡ Listed os n
    → (step (after s more) (request.List kind namespace other)).1 ≡ Listed ps n → os ≡ ps
one_version capacity first more kind namespace one other os ps n here there =
    let s = after (opening capacity) first in
    let sound = sound_in_run capacity first in
    let before = listed_by s kind namespace one os n sound here in
    let later = listed_by (after s more) kind namespace other ps n (sound_run s more sound) there in
    before.are ∙ sym (later.are ∙ ap (λ m. collection m kind namespace) (map_run s more n sound later.from before.upto))

-- the list of now is the list at the counter
pub stays : (capacity : ℕ) (first more : List Request) (kind : Kind) (namespace : List ℕ) → let s = after (opening capacity) first in 1 ≤ s.counter
    → let late = (step (after s more) (request.List kind namespace s.counter)).1 in (late ≡ Refused Expired) ⊎ (late ≡ (step s (request.List kind namespace 0)).1)
stays capacity first more kind namespace some = by (nat_lt s.counter t.floor) refl
  where
    s : Store
    s = after (opening capacity) first

    t : Store
    t = after s more

    sound : IsSound s
    sound = sound_in_run capacity first

    late : Reply
    late = (step t (request.List kind namespace s.counter)).1

    upto : s.counter ≤ t.counter
    upto = counter_run s more

    is : late ≡ listed_at s.counter (collection (map_at t s.counter) kind namespace) (denied t.floor t.counter s.counter)
    is = sym (ap (λ e. e.1) (list_at_step t kind namespace s.counter (λ none. omega (arith, some, none))))

    by : (b : Bool) → nat_lt s.counter t.floor ≡ b → (late ≡ Refused Expired) ⊎ (late ≡ (step s (request.List kind namespace 0)).1)
    by true below =
        let under : s.counter < t.floor = grind (arith, nat_tests) in
        inl (is ∙ ap (listed_at s.counter (collection (map_at t s.counter) kind namespace)) (denied_below t.floor t.counter s.counter upto under))
    by false kept =
        let from : t.floor ≤ s.counter = grind (arith, nat_tests) in
        inr (is ∙ ap (listed_at s.counter (collection (map_at t s.counter) kind namespace)) (not_denied t.floor t.counter s.counter from upto)
        ∙ ap (λ m. Listed (collection m kind namespace) s.counter) (map_run s more s.counter sound from (omega arith) ∙ present s sound)
        ∙ ap (λ e. e.1) (list_step s kind namespace 0 refl))

-- ---- each number was once the counter

record Was (s : Store) (rs : List Request) (n : ℕ) : Type 0 where
  first : List Request
  more : List Request
  are : rs ≡ first ++ more
  counted : (after s first).counter ≡ n

was_later : (s : Store) (r : Request) (rs : List Request) (n : ℕ) (b : Bool) → nat_lt s.counter n ≡ b → s.counter ≤ n
    → (s.counter < n → Was (step s r).0 rs n) → Was s (r ∷ rs) n
was_later s r rs n true is low later =
    let rest = later (grind (arith, nat_tests)) in
    record { first = r ∷ rest.first; more = rest.more; are = ap (λ qs. r ∷ qs) rest.are; counted = rest.counted }
was_later s r rs n false is low later =
    let high : n ≤ s.counter = grind (arith, nat_tests) in
    record { first = []; more = r ∷ rs; are = refl; counted = omega (arith, low, high) }

was : (s : Store) (rs : List Request) (n : ℕ) → s.counter ≤ n → n ≤ (after s rs).counter → Was s rs n
was s [] n low high = record { first = []; more = []; are = refl; counted = omega (arith, low, high) }
was s (r ∷ rs) n low high = was_later s r rs n (nat_lt s.counter n) refl low (λ less.
    was (step s r).0 rs n (let one = (counter_step s r).1 in omega (arith, one, less)) high)

pub was_at : (capacity : ℕ) (rs : List Request) (n : ℕ) → n ≤ (after (opening capacity) rs).counter → WasAt capacity rs n
was_at capacity rs n high =
    let at = was (opening capacity) rs n (omega arith) high in
    record { first = at.first; more = at.more; are = at.are; counted = at.counted }

-- ---- compactions

record IsRaised (s t : Store) (to : ℕ) : Type 0 where
  is : t ≡ with_floor s to
  from : s.floor ≤ to
  upto : to ≤ s.counter

raised_by : (s t : Store) (to : ℕ) (denial : Option Reason) → denied s.floor s.counter to ≡ denial → compacted_to s to denial ≡ (t, Compacted to) → IsRaised s t to
raised_by s t to (Some reason) denial is = let e : Refused reason ≡ Compacted to = ap (λ (x : Store × Reply). x.1) is in absurd cc
raised_by s t to None denial is =
    let both = readable s.floor s.counter to denial in
    record { is = sym (ap (λ (x : Store × Reply). x.0) is); from = both.0; upto = both.1 }

raised : (s t : Store) (to : ℕ) → step s (Compact to) ≡ (t, Compacted to) → IsRaised s t to
raised s t to is = raised_by s t to (denied s.floor s.counter to) refl (compaction_step s to (denied s.floor s.counter to) refl ∙ is)

pub leaves_the_present : (s t : Store) (to : ℕ) → step s (Compact to) ≡ (t, Compacted to) → (t.objects ≡ s.objects) × (t.counter ≡ s.counter) × (t.capacity ≡ s.capacity) × (t.floor ≡ to)
leaves_the_present s t to is =
    let new = (raised s t to is).is in
    (ap (λ (x : Store). x.objects) new, ap (λ (x : Store). x.counter) new, ap (λ (x : Store). x.capacity) new, ap (λ (x : Store). x.floor) new)

-- a number from a higher floor on is denied as before
denied_still : (floor to counter n : ℕ) → floor ≤ to → to ≤ n → denied to counter n ≡ denied floor counter n
denied_still floor to counter n low high = by (nat_lt counter n) refl
  where
    by : (b : Bool) → nat_lt counter n ≡ b → denied to counter n ≡ denied floor counter n
    by true is = let above : counter < n = grind (arith, nat_tests) in denied_above to counter n above ∙ sym (denied_above floor counter n above)
    by false is =
        let upto : n ≤ counter = grind (arith, nat_tests) in
        not_denied to counter n high upto ∙ sym (not_denied floor counter n (omega (arith, low, high)) upto)

listed_still : (s : Store) (to : ℕ) (kind : Kind) (namespace : List ℕ) (n : ℕ) (b : Bool) → s.floor ≤ to → to ≤ n
    → (routed (with_floor s to) (request.List kind namespace n) (cond b (lists kind namespace) (lists_at kind namespace n))).1
    ≡ (routed s (request.List kind namespace n) (cond b (lists kind namespace) (lists_at kind namespace n))).1
listed_still s to kind namespace n true low high = refl
listed_still s to kind namespace n false low high =
    ap (λ m. listed_at n (collection m kind namespace) (denied to s.counter n)) (map_raised s to n low high)
    ∙ ap (listed_at n (collection (map_at s n) kind namespace)) (denied_still s.floor to s.counter n low high)

pub leaves_the_lists : (s t : Store) (to : ℕ) (kind : Kind) (namespace : List ℕ) (n : ℕ) → step s (Compact to) ≡ (t, Compacted to) → to ≤ n
    → (step t (request.List kind namespace n)).1 ≡ (step s (request.List kind namespace n)).1
unfolding step route
leaves_the_lists s t to kind namespace n is high =
    let new = raised s t to is in
    ap (λ (x : Store). (routed x (request.List kind namespace n) (route (request.List kind namespace n))).1) new.is
    ∙ listed_still s to kind namespace n (n == 0) new.from high

-- ---- refusals

list_denied : (os : List Object) (n : ℕ) (reason : Reason) (denial : Option Reason) → listed_at n os denial ≡ Refused reason → denial ≡ Some reason
list_denied os n reason (Some other) is = cc
list_denied os n reason None is = absurd cc

compaction_denied : (s : Store) (n : ℕ) (reason : Reason) (denial : Option Reason) → (compacted_to s n denial).1 ≡ Refused reason → denial ≡ Some reason
compaction_denied s n reason (Some other) is = cc
compaction_denied s n reason None is = absurd cc

denial_of : (s : Store) (r : Request) (n : ℕ) (reason : Reason) → asked r ≡ Some n → (step s r).1 ≡ Refused reason → denied s.floor s.counter n ≡ Some reason
unfolding step
denial_of s r n reason names refused = by (route r) names refused
  where
    by : (x : Route) → asked_by x ≡ Some n → (routed s r x).1 ≡ Refused reason → denied s.floor s.counter n ≡ Some reason
    by (gets k) none is = absurd cc
    by (lists kind namespace) none is = absurd cc
    by (writes k) none is = absurd cc
    by (lists_at kind namespace m) some is =
        ap (denied s.floor s.counter) (sym (same_Some m n some)) ∙ list_denied (collection (map_at s m) kind namespace) m reason (denied s.floor s.counter m) is
    by (compacts m) some is = ap (denied s.floor s.counter) (sym (same_Some m n some)) ∙ compaction_denied s m reason (denied s.floor s.counter m) is

pub too_large : (s : Store) (r : Request) (n : ℕ) → asked r ≡ Some n → (step s r).1 ≡ Refused TooLarge → s.counter < n
too_large s r n names refused = above_when_large s.floor s.counter n (denial_of s r n TooLarge names refused)

-- the floor is as it was, or the request was the compaction that set it
abbrev IsSet : Store → Request → Store × Reply → Type 0
IsSet s r end = (end.0.floor ≡ s.floor) ⊎ ((r ≡ Compact end.0.floor) × (end.1 ≡ Compacted end.0.floor))

set_by : (s : Store) (r : Request) (n : ℕ) (denial : Option Reason) → r ≡ Compact n → IsSet s r (compacted_to s n denial)
set_by s r n (Some reason) is = inl refl
set_by s r n None is = inr (is, refl)

verdict_sets : (s : Store) (r : Request) (k : Key) (v : Verdict) → IsSet s r (carried_out s k v)
verdict_sets s r k (Refuse reason) = inl refl
verdict_sets s r k (Same o) = inl refl
verdict_sets s r k (Write c) = by (s.counter == s.capacity)
  where
    by : (full : Bool) → IsSet s r (cond full (s, Refused StoreFull) (with_change s k c, accepted c (stamp c (s.counter + 1))))
    by true = inl refl
    by false = inl refl

step_sets : (s : Store) (r : Request) → IsSet s r (step s r)
unfolding step
step_sets s r = by (route r) refl
  where
    by : (x : Route) → route r ≡ x → IsSet s r (routed s r x)
    by (gets k) is = inl refl
    by (lists kind namespace) is = inl refl
    by (writes k) is = verdict_sets s r k (verdict r (map.get s.objects k))
    by (lists_at kind namespace n) is = inl refl
    by (compacts n) is = set_by s r n (denied s.floor s.counter n) (is_compaction r n is)

-- the floor is as it was, or a compaction of the run set it
abbrev Sets : Store → List Request → ℕ → Type 0
Sets s rs floor = (floor ≡ s.floor) ⊎ Contains (exchanges s rs) (Compact floor, Compacted floor)

set_first : (s : Store) (r : Request) (rs : List Request) (floor : ℕ) → floor ≡ (step s r).0.floor → IsSet s r (step s r) → Sets s (r ∷ rs) floor
set_first s r rs floor is (inl same) = inl (is ∙ same)
set_first s r rs floor is (inr sets) =
    let e : (r, (step s r).1) ≡ (Compact floor, Compacted floor) =
    ap (λ x. (x, (step s r).1)) (sets.0 ∙ ap Compact (sym is)) ∙ ap (λ x. (Compact floor, x)) (sets.1 ∙ ap Compacted (sym is)) in
    inr (subst (Contains (exchanges s (r ∷ rs))) e (Contains-append_left ((r, (step s r).1) ∷ []) (exchanges (step s r).0 rs) (r, (step s r).1) (Contains-push [] (r, (step s r).1))))

set_later : (s : Store) (r : Request) (rs : List Request) (floor : ℕ) → Sets (step s r).0 rs floor → Sets s (r ∷ rs) floor
set_later s r rs floor (inl same) = set_first s r rs floor same (step_sets s r)
set_later s r rs floor (inr sets) = inr (Contains-append_right ((r, (step s r).1) ∷ []) (exchanges (step s r).0 rs) (Compact floor, Compacted floor) sets)

floor_set : (s : Store) (rs : List Request) → Sets s rs (after s rs).floor
floor_set s [] = inl refl
floor_set s (r ∷ rs) = set_later s r rs (after (step s r).0 rs).floor (floor_set (step s r).0 rs)

set_above : (capacity : ℕ) (rs : List Request) (n : ℕ) → let s = after (opening capacity) rs in n < s.floor → Sets (opening capacity) rs s.floor
    → WasCompactedAbove n (exchanges (opening capacity) rs)
set_above capacity rs n below (inl none) = absurd (omega (arith, below, none))
set_above capacity rs n below (inr sets) = ((after (opening capacity) rs).floor, below, sets)

pub expired : (capacity : ℕ) (rs : List Request) (r : Request) (n : ℕ) → let s = after (opening capacity) rs in asked r ≡ Some n → (step s r).1 ≡ Refused Expired
    → WasCompactedAbove n (exchanges (opening capacity) rs)
expired capacity rs r n names refused =
    let s = after (opening capacity) rs in
    set_above capacity rs n (below_when_expired s.floor s.counter n (denial_of s r n Expired names refused)) (floor_set (opening capacity) rs)

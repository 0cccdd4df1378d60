-- What there was at a number stays, as long as it can be read.
use Rattle.std.proofs.Common.{◌≡◌, ◌≤◌, ◌<◌, ◌+◌, ◌-◌, ℕ, Bool, true, false, List, [], ◌∷◌, ◌++◌, get_or, length, Option, refl, sym, ap, subst, ◌∙◌, arith, length-append, length-drop}
use Rattle.std.specs.Prelude.{nat_lt}
use Rattle.std.proofs.lemmas.Bool.Decides.{nat_tests}
use Rattle.std.proofs.lemmas.List.{get_or-append_right, get_or-drop, get_or_append_left, get_or_default, get_or_past}
use Rattle.objects.specs.declared.key.Key.{Key}
use Rattle.objects.specs.declared.object.Object.{Object}
use Rattle.requests.specs.declared.request.Request.{Request}
use Rattle.plain_store.specs.Reached.{IsReached, most_revisions}
use Rattle.plain_store.specs.Run.{after}
use Rattle.plain_store.specs.Store.{Objects, Store, map_at, opening, step, with_floor, with_next}
use Rattle.plain_store.proofs.Moves.{Moves, idle, moves, raised, wrote}

-- the past has a map for each number from the floor to the one before the counter, which is at most the capacity
pub record IsSound (s : Store) : Type 0 where
  pub floor : s.floor ≤ s.counter
  pub many : length s.past + s.floor ≡ s.counter
  pub within : s.counter ≤ s.capacity

pub sound_move : (s t : Store) → Moves s t → IsSound s → IsSound t
sound_move s t (idle is) sound = subst IsSound (sym is) sound
sound_move s t (wrote k now room is) sound =
    let low = sound.floor in
    let many = sound.many in
    let within = sound.within in
    let longer = length-append s.past (s.objects ∷ []) in
    subst IsSound (sym is) (record { floor = omega (arith, low); many = omega (arith, many, longer); within = omega (arith, within, room) })
sound_move s t (raised n from upto is) sound =
    let many = sound.many in
    let shorter = length-drop (n - s.floor) s.past in
    subst IsSound (sym is) (record { floor = upto; many = omega (arith, many, shorter, from, upto); within = sound.within })

pub sound_run : (s : Store) (rs : List Request) → IsSound s → IsSound (after s rs)
sound_run s [] sound = sound
sound_run s (r ∷ rs) sound = sound_run (step s r).0 rs (sound_move s (step s r).0 (moves s r) sound)

pub sound_opening : (capacity : ℕ) → IsSound (opening capacity)
sound_opening capacity = record { floor = omega arith; many = refl; within = omega arith }

pub sound_in_run : (capacity : ℕ) (rs : List Request) → IsSound (after (opening capacity) rs)
sound_in_run capacity rs = sound_run (opening capacity) rs (sound_opening capacity)

-- ---- what rises, and what stays

floor_move : (s t : Store) → Moves s t → s.floor ≤ t.floor
floor_move s t (idle is) = let same = ap (λ (x : Store). x.floor) is in omega (arith, same)
floor_move s t (wrote k now room is) = let same = ap (λ (x : Store). x.floor) is in omega (arith, same)
floor_move s t (raised n from upto is) = let same = ap (λ (x : Store). x.floor) is in omega (arith, same, from)

pub floor_run : (s : Store) (rs : List Request) → s.floor ≤ (after s rs).floor
floor_run s [] = omega arith
floor_run s (r ∷ rs) = let one = floor_move s (step s r).0 (moves s r) in let rest = floor_run (step s r).0 rs in omega (arith, one, rest)

counter_move : (s t : Store) → Moves s t → (s.counter ≤ t.counter) × (t.counter ≤ s.counter + 1)
counter_move s t (idle is) = let same = ap (λ (x : Store). x.counter) is in (omega (arith, same), omega (arith, same))
counter_move s t (wrote k now room is) = let same = ap (λ (x : Store). x.counter) is in (omega (arith, same), omega (arith, same))
counter_move s t (raised n from upto is) = let same = ap (λ (x : Store). x.counter) is in (omega (arith, same), omega (arith, same))

pub counter_step : (s : Store) (r : Request) → (s.counter ≤ (step s r).0.counter) × ((step s r).0.counter ≤ s.counter + 1)
counter_step s r = counter_move s (step s r).0 (moves s r)

pub counter_run : (s : Store) (rs : List Request) → s.counter ≤ (after s rs).counter
counter_run s [] = omega arith
counter_run s (r ∷ rs) = let one = (counter_step s r).0 in let rest = counter_run (step s r).0 rs in omega (arith, one, rest)

capacity_move : (s t : Store) → Moves s t → t.capacity ≡ s.capacity
capacity_move s t (idle is) = ap (λ (x : Store). x.capacity) is
capacity_move s t (wrote k now room is) = ap (λ (x : Store). x.capacity) is
capacity_move s t (raised n from upto is) = ap (λ (x : Store). x.capacity) is

capacity_run : (s : Store) (rs : List Request) → (after s rs).capacity ≡ s.capacity
capacity_run s [] = refl
capacity_run s (r ∷ rs) = capacity_run (step s r).0 rs ∙ capacity_move s (step s r).0 (moves s r)

pub bounds : (s : Store) → IsReached s → (1 ≤ s.capacity) × (s.capacity ≤ most_revisions) × (s.counter ≤ s.capacity) × (s.floor ≤ s.counter)
bounds s is =
    let same = ap (λ (x : Store). x.capacity) is.left ∙ capacity_run (opening is.capacity) is.requests in
    let least = is.least in
    let most = is.most in
    let sound = subst IsSound (sym is.left) (sound_in_run is.capacity is.requests) in
    (omega (arith, same, least), omega (arith, same, most), sound.within, sound.floor)

-- ---- what there was at a number

pub present : (s : Store) → IsSound s → map_at s s.counter ≡ s.objects
present s sound = let many = sound.many in get_or_past s.past (s.counter - s.floor) s.objects (omega (arith, many))

map_written : (s : Store) (k : Key) (now : Option Object) (n : ℕ) → IsSound s → s.floor ≤ n → n ≤ s.counter → map_at (with_next s k now) n ≡ map_at s n
map_written s k now n sound from upto = by (nat_lt n s.counter) refl
  where
    new : Objects
    new = (with_next s k now).objects

    by : (b : Bool) → nat_lt n s.counter ≡ b → get_or (s.past ++ s.objects ∷ []) (n - s.floor) new ≡ map_at s n
    by true is =
        let before : n < s.counter = grind (arith, nat_tests) in
        let many = sound.many in
        let inside : n - s.floor < length s.past = omega (arith, before, many, from) in
        get_or_append_left s.past (s.objects ∷ []) new (n - s.floor) inside ∙ get_or_default s.past (n - s.floor) new s.objects inside
    by false is =
        let behind : s.counter ≤ n = grind (arith, nat_tests) in
        let now_is : n ≡ s.counter = omega (arith, behind, upto) in
        let many = sound.many in
        let first : n - s.floor - length s.past ≡ 0 = omega (arith, now_is, many) in
        get_or-append_right s.past (s.objects ∷ []) (length s.past) (n - s.floor) new refl (omega (arith, now_is, many))
        ∙ ap (λ i. get_or (s.objects ∷ []) i new) first ∙ sym (ap (map_at s) now_is ∙ present s sound)

pub map_raised : (s : Store) (to n : ℕ) → s.floor ≤ to → to ≤ n → map_at (with_floor s to) n ≡ map_at s n
map_raised s to n from upto =
    let there : to - s.floor + (n - to) ≡ n - s.floor = omega (arith, from, upto) in
    get_or-drop (to - s.floor) s.past (n - to) s.objects ∙ ap (λ i. get_or s.past i s.objects) there

map_move : (s t : Store) (n : ℕ) → Moves s t → IsSound s → t.floor ≤ n → n ≤ s.counter → map_at t n ≡ map_at s n
map_move s t n (idle is) sound from upto = ap (λ x. map_at x n) is
map_move s t n (wrote k now room is) sound from upto =
    let same = ap (λ (x : Store). x.floor) is in
    ap (λ x. map_at x n) is ∙ map_written s k now n sound (omega (arith, same, from)) upto
map_move s t n (raised to low high is) sound from upto =
    let same = ap (λ (x : Store). x.floor) is in
    ap (λ x. map_at x n) is ∙ map_raised s to n low (omega (arith, same, from))

pub map_run : (s : Store) (rs : List Request) (n : ℕ) → IsSound s → (after s rs).floor ≤ n → n ≤ s.counter → map_at (after s rs) n ≡ map_at s n
map_run s [] n sound from upto = refl
map_run s (r ∷ rs) n sound from upto =
    let t = (step s r).0 in
    let more = (counter_step s r).0 in
    let floor = floor_run t rs in
    map_run t rs n (sound_move s t (moves s r) sound) from (omega (arith, more, upto)) ∙ map_move s t n (moves s r) sound (omega (arith, floor, from)) upto

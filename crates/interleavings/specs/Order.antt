-- The order that a run builds, event by event. A write joins it once the frontier passes its number; a read or a
-- compaction at its Read, ReadAt or Compact; a request that is refused or changes nothing at its Check or Reserve, or
-- else once the frontier passes the number that it saw. If its caller crashes before that, the request is removed.
use Rattle.std.specs.Prelude.{ℕ, suc, Bool, true, false, cond, nat_eq, nat_le, List, [], ◌∷◌, ◌++◌, Option, Some, None}
use Rattle.interleavings.specs.declared.event.Event.{Event}
use Rattle.interleavings.specs.declared.event.Event.TheVariants.{Call, Check, Reserve, Publish, Raise, Read, ReadAt, Compact, Part, Crash}
use Rattle.interleavings.specs.declared.event.Event.TheVariants as event
use Rattle.interleavings.specs.Log.{Writing}
use Rattle.interleavings.specs.World.{Phase, Called, Holding, Waiting, Reading, Gone, Size, World, opening}
use Rattle.interleavings.specs.Step.{step}

-- a request that changes nothing, and waits for the frontier to pass the number that it saw
pub record Parked : Type 0 where
  pub number : ℕ
  pub caller : ℕ
  pub place : ℕ

-- the order so far, and what is parked, first to last
pub record Arrangement : Type 0 where
  pub order : List ℕ
  pub parked : List Parked

abbrev pub beginning : Arrangement
beginning = record { order = []; parked = [] }

abbrev pub with_last : Arrangement → ℕ → Arrangement
with_last a place = record { order = a.order ++ place ∷ []; parked = a.parked }

-- without what the caller has parked
abbrev pub without : ℕ → List Parked → List Parked
without c [] = []
without c (p ∷ ps) = cond (nat_eq p.caller c) (without c ps) (p ∷ without c ps)

-- the places of what is parked at a number, and what is parked at others
abbrev pub places_at : ℕ → List Parked → List ℕ
places_at n [] = []
places_at n (p ∷ ps) = cond (nat_eq p.number n) (p.place ∷ places_at n ps) (places_at n ps)

abbrev pub rest : ℕ → List Parked → List Parked
rest n [] = []
rest n (p ∷ ps) = cond (nat_eq p.number n) (rest n ps) (p ∷ rest n ps)

abbrev pub last_or_parked : Bool → (saw caller place : ℕ) → Arrangement → Arrangement
last_or_parked true saw c place a = with_last a place
last_or_parked false saw c place a = record { order = a.order; parked = a.parked ++ record { number = saw; caller = c; place = place } ∷ [] }

-- by the phase of a caller before its event and after it
abbrev pub moved : (frontier caller : ℕ) → Phase → Phase → Arrangement → Arrangement
moved f c (Called place r) (Waiting saw p reply) a = last_or_parked (nat_le saw f) saw c place a
moved f c (Called place r) (Reading n p q parts found) a = with_last a place
moved f c (Holding t) (Waiting saw p reply) a = last_or_parked (nat_le saw f) saw c t.place a
moved f c (Waiting saw place reply) (Gone left) a = record { order = a.order; parked = without c a.parked }
moved f c before after a = a

abbrev pub moved_by : ℕ → World → World → Arrangement → Arrangement
moved_by c w v a = moved w.frontier c (w.phase c) (v.phase c) a

-- by a write that the frontier passes
abbrev pub passed : ℕ → Option Writing → Arrangement → Arrangement
passed n None a = a
passed n (Some t) a = record { order = a.order ++ t.place ∷ places_at n a.parked; parked = rest n a.parked }

-- by an event between two worlds
abbrev pub arranged : World → Event → World → Arrangement → Arrangement
arranged w (Call c r) v a = moved_by c w v a
arranged w (Check c) v a = moved_by c w v a
arranged w (Reserve c) v a = moved_by c w v a
arranged w (Publish c) v a = moved_by c w v a
arranged w Raise v a = passed (suc w.frontier) (w.log w.frontier) a
arranged w (Read c) v a = moved_by c w v a
arranged w (ReadAt c) v a = moved_by c w v a
arranged w (Compact c) v a = moved_by c w v a
arranged w (Part c) v a = moved_by c w v a
arranged w (event.Reply c) v a = moved_by c w v a
arranged w (Crash c) v a = moved_by c w v a

abbrev pub arrangement : Size → World → Arrangement → List Event → Arrangement
arrangement z w a [] = a
arrangement z w a (e ∷ es) = arrangement z (step z w e) (arranged w e (step z w e) a) es

abbrev pub order : Size → List Event → List ℕ
order z events = (arrangement z opening beginning events).order

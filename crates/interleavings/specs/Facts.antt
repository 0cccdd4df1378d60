-- What a step rests on: facts of every world that a run leads to.
use Rattle.std.specs.Prelude.{◌≡◌, ℕ, ◌<◌, ◌≤◌, [], List, Option, Some, None}
use Rattle.objects.specs.declared.key.Key.{Key}
use Rattle.objects.specs.declared.kind.Kind.{Kind}
use Rattle.requests.specs.declared.request.Request.{Request}
use Rattle.requests.specs.Change.{change_object}
use Rattle.plain_store.specs.Store.{Objects, step}
use Rattle.plain_store.specs.Route.{lists_at, route, writes}
use Rattle.interleavings.specs.Log.{IsFiled, Writing, state_at}
use Rattle.interleavings.specs.World.{Draw, Phase, Idle, Called, Holding, Drawn, Waiting, Reading, Gone, Size, World, shard}
use Rattle.interleavings.specs.Step.{only}

-- a write in progress, and one that has allocated its number
abbrev pub writing_in : Phase → Option Writing
writing_in Idle = None
writing_in (Called p r) = None
writing_in (Holding t) = Some t
writing_in (Drawn d) = Some d.writing
writing_in (Waiting s p r) = None
writing_in (Reading n p r parts found) = None
writing_in (Gone None) = None
writing_in (Gone (Some d)) = Some d.writing

abbrev pub draw_in : Phase → Option Draw
draw_in Idle = None
draw_in (Called p r) = None
draw_in (Holding t) = None
draw_in (Drawn d) = Some d
draw_in (Waiting s p r) = None
draw_in (Reading n p r parts found) = None
draw_in (Gone left) = left

pub record Facts (z : Size) (w : World) : Type 0 where
  pub some : 0 < z.shards
  pub standing : w.floor ≤ w.frontier
  pub within : w.frontier ≤ w.drawn
  pub room : w.drawn ≤ z.capacity
  pub above : (i : ℕ) → w.drawn ≤ i → w.log i ≡ None
  pub filed : IsFiled w.log
  pub fits : (c : ℕ) (t : Writing) → writing_in (w.phase c) ≡ Some t → (change_object t.change).key ≡ t.key
  pub holds : (c : ℕ) (t : Writing) → writing_in (w.phase c) ≡ Some t → w.holder (shard z t.key) ≡ Some c
  -- a number that is allocated and not filled is above all others of its shard that are filled
  pub below : (c : ℕ) (d : Draw) → draw_in (w.phase c) ≡ Some d → d.index < w.drawn
  pub empty : (c : ℕ) (d : Draw) → draw_in (w.phase c) ≡ Some d → w.log d.index ≡ None
  pub latest : (c : ℕ) (d : Draw) → draw_in (w.phase c) ≡ Some d → (i : ℕ) (t : Writing) → w.log i ≡ Some t → shard z t.key ≡ shard z d.writing.key → i < d.index
  -- the reply to a read whose parts are all read is what was there at its number
  pub past : (c n p : ℕ) (r : Request) (parts : List ℕ) (found : Objects) → w.phase c ≡ Reading n p r parts found → (n ≤ w.frontier) × ((k : Key) → route r ≡ writes k → ⊥)
  pub answer : (c n p : ℕ) (r : Request) (found : Objects) → w.phase c ≡ Reading n p r [] found → (step (only z n found) r).1 ≡ (step (only z n (state_at w.log n)) r).1
  -- a list at a number is read at that number
  pub numbered : (c n p : ℕ) (r : Request) (parts : List ℕ) (found : Objects) → w.phase c ≡ Reading n p r parts found → (kind : Kind) (namespace : List ℕ) (number : ℕ) → route r ≡ lists_at kind namespace number → number ≡ n

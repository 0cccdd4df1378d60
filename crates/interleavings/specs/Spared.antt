-- Numbers below which nothing is read any more, so that a compaction may drop what only reads below them need.
use Rattle.std.specs.Prelude.{◌≡◌, ℕ, ◌≤◌, List}
use Rattle.requests.specs.declared.request.Request.{Request}
use Rattle.plain_store.specs.Store.{Objects}
use Rattle.interleavings.specs.World.{Reading, World}

-- The number is at most the floor, and at most that of each read that has begun and has no reply yet.
pub record IsSpared (w : World) (number : ℕ) : Type 0 where
  pub floor : number ≤ w.floor
  pub reads : (c n p : ℕ) (r : Request) (parts : List ℕ) (found : Objects) → w.phase c ≡ Reading n p r parts found → number ≤ n

-- The greatest such number: the least of the floor and of the numbers of all reads that have begun and have no reply
-- yet.
pub record IsLeastRead (w : World) (number : ℕ) : Type 0 where
  pub spared : IsSpared w number
  pub greatest : (n : ℕ) → IsSpared w n → n ≤ number

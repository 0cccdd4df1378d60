-- The states of the plain store: those that a run leaves, from a store that was opened.
use Rattle.std.specs.Prelude.{◌≡◌, ◌≤◌, ℕ, List}
use Rattle.requests.specs.declared.request.Request.{Request}
use Rattle.plain_store.specs.Store.{Store, opening}
use Rattle.plain_store.specs.Run.{after}

-- the most revisions that a store may allocate
abbrev pub most_revisions : ℕ
most_revisions = 1048576

-- some run from a store of some capacity from 1 to 1,048,576 leaves this state
pub record IsReached (s : Store) : Type 0 where
  pub capacity : ℕ
  pub least : 1 ≤ capacity
  pub most : capacity ≤ most_revisions
  pub requests : List Request
  pub left : s ≡ after (opening capacity) requests

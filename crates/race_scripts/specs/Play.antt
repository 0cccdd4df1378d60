-- The participants of a race on their way.
use Rattle.std.specs.Prelude.{List}
use Rattle.std.specs.List.{AllByRecursion}
use Rattle.indexmap.specs.IndexMap.{values}
use Rattle.outcomes.specs.Names.{AreNamed}
use Rattle.outcomes.specs.declared.replies.Replies.{Replies}
use Rattle.participants.specs.Stands.{IsWithin}
use Rattle.participants.specs.declared.stand.Stand.{Stand}

-- each has heard only replies that have a number
pub record AreOnTheWay (replies : Replies) (stands : List Stand) : Type 0 where
  pub named : AreNamed replies.named.entries
  pub within : AllByRecursion (IsWithin (values replies.named)) stands

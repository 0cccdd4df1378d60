-- The order of a race: by the number, the write that drew it before the others, and those by the indices of their
-- calls.
use Rattle.std.specs.Prelude.{List}
use Rattle.std.specs.declared.cmp.Ordering.{Ordering}
use Rattle.std.specs.Ordering.{nat_cmp, bool_cmp, ordering_then}
use Rattle.std.specs.List.Sorted.{IsPermutation, IsSorted}
use Rattle.race_log.specs.declared.stamp.Stamp.{Stamp}

-- if the numbers are equal, an accepted write is less; if that is equal too, the earlier call
abbrev pub stamp_cmp : Stamp → Stamp → Ordering
stamp_cmp s t = ordering_then (nat_cmp s.number t.number) (ordering_then (bool_cmp s.follows t.follows) (ordering_then (nat_cmp s.call t.call) (nat_cmp s.reply t.reply)))

pub record IsOrderOf (stamps order : List Stamp) : Type 0 where
  pub same : IsPermutation stamps order
  pub sorted : IsSorted stamp_cmp order

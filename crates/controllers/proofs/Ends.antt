-- Ends of lists.
use Rattle.std.proofs.Common.{◌≡◌, List, [], ◌++◌, sym}
use Rattle.std.proofs.lemmas.List.{append-nil}

pub with_none : {X : Type 0} (xs : List X) → xs ≡ xs ++ []
with_none xs = sym (append-nil xs)

use Rattle.std.proofs.Common.{◌≡◌, ℕ, List, ◌++◌, true}
use Rattle.std.specs.Prelude.{bytes_eq}
use Rattle.std.specs.Iterator.Adapters.{rev_source}
use Rattle.std.specs.List.{list_any}
use Rattle.std.specs.Slice.Iter.{iter_rest}
use Rattle.set_views.specs.Claims.{Claim, are_distinct, names_of}
use Rattle.set_views.proofs.claims.are_distinct.Given as goal

abbrev pub invariant-loop-name : goal.invariant-loop-name
invariant-loop-name l =
    (done : List Claim) × (iter_rest (rev_source l.name-iterator) ++ done ≡ l.claims) × (are_distinct (names_of done) ≡ true)
    × ((q : List ℕ) → list_any (λ k. bytes_eq q k.now) l.names.keys ≡ list_any (bytes_eq q) (names_of done))

use Rattle.std.proofs.Common.{◌≡◌, ◌+◌, ◌-◌, ℕ, List}
use Rattle.sha2.specs.Hashers.{Holds256}
use Rattle.revisions.specs.Listing.{has_name}
use Rattle.revisions.specs.Name.{first_free, most_tries, revision_name}
use Rattle.revisions.proofs.name.free_name.Given as goal

abbrev pub invariant-loop-count : goal.invariant-loop-count
invariant-loop-count l =
    ((text : List ℕ) → Holds256 l.fn.hashed text → first_free (λ q. has_name q l.fn.names.keys) (revision_name l.fn.set text l.fn.digits) l.fn.from most_tries
    ≡ first_free (λ q. has_name q l.fn.names.keys) (revision_name l.fn.set text l.fn.digits) l.count (l.fn.from + most_tries - l.count))
    × (l.count-end ≡ l.fn.from + most_tries)

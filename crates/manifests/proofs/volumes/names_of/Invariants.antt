use Rattle.std.proofs.Common.{◌≡◌, ℕ, List, take}
use Rattle.std.specs.Prelude.{bytes_eq}
use Rattle.std.specs.List.{list_any}
use Rattle.set_views.specs.Claims.{names_of}
use Rattle.revisions.specs.Listing.{has_name}
use Rattle.manifests.proofs.volumes.names_of.Given as goal

abbrev pub invariant-loop-name : goal.invariant-loop-name
invariant-loop-name l = (q : List ℕ) → has_name q l.names.keys ≡ list_any (bytes_eq q) (names_of (take l.name-index l.set.claims.items))

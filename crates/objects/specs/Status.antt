-- Members of an object's body by their keys, and members that are set or removed: `status` is written by a request of
-- its own, and kept by all others (Kubernetes API conventions, "Spec and Status").
use Rattle.std.specs.Prelude.{ℕ, Bool, true, false, ◌||◌, List, codes, bytes_eq, Option, Some, None, option_and_then}
use Rattle.serde_json.specs.Data.{Data, object}
use Rattle.serde_json.specs.Find.{get_member, as_object}
use Rattle.trees.specs.Members.{set_member}
use Rattle.trees.specs.Same.{same_data}

-- the member of that key of an object's body
abbrev pub member_of : List ℕ → Data → Option Data
member_of k body = option_and_then (get_member k) (as_object body)

-- a body with that member set or removed; what is no object stays as it is
abbrev pub with_member : List ℕ → Option Data → Data → Data
with_member k value (object ms) = object (set_member k value ms)
with_member k value d = d

-- the members that say what an object is, and name it
abbrev pub is_identity : List ℕ → Bool
is_identity k = bytes_eq k (codes "apiVersion") || bytes_eq k (codes "kind") || bytes_eq k (codes "metadata")

-- a missing value differs from one that is there
abbrev pub same_found : Option Data → Option Data → Bool
same_found None None = true
same_found None (Some e) = false
same_found (Some d) None = false
same_found (Some d) (Some e) = same_data d e

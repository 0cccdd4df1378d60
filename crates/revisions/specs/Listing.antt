-- Sets of names that are borrowed.
use Rattle.std.specs.Prelude.{◌≡◌, ℕ, Bool, List, bytes_eq}
use Rattle.std.specs.Borrow.{Bor}
use Rattle.std.specs.List.{list_any}
use Rattle.objects.specs.declared.object.Object.{Object}
use Rattle.set_views.specs.Firsts.{is_held}

-- whether the name is one of these
abbrev pub has_name : List ℕ → List (Bor (List ℕ)) → Bool
has_name q names = list_any (λ name. bytes_eq q name.now) names

-- they are the names of these revisions
abbrev pub HoldsNames : List (Bor (List ℕ)) → List Object → Type 0
HoldsNames names os = (q : List ℕ) → has_name q names ≡ is_held os q

-- Claims by parts of their names.
use Rattle.std.specs.Prelude.{ℕ, List, [], map, bytes_eq, Some, None, if◌then◌else◌}
use Rattle.std.specs.Borrow.{Bor}
use Rattle.std.specs.BTreeMap.{BTreeMap, get_by}
use Rattle.std.specs.Cmp.Lexicographic.{slice_cmp}
use Rattle.std.specs.Global.{Vec}
use Rattle.std.specs.List.{filter_map}
use Rattle.std.specs.Option.{option_map_or}
use Rattle.std.specs.Ordering.{nat_cmp}
use Rattle.objects.specs.declared.object.Object.{Object}

-- what a map has under a text
abbrev pub under : {T : Type 0} → BTreeMap (Bor (List ℕ)) (Vec T) → List ℕ → List T
under groups text = option_map_or (λ g. g.items) (get_by (λ k. slice_cmp nat_cmp text k.now) groups) []

-- claims, each after its digits
abbrev pub claims_in : List (Bor (List ℕ) × Bor Object) → List Object
claims_in claims = map (λ c. c.1.now) claims

-- those after these digits
abbrev pub with_digits : List ℕ → List (Bor (List ℕ) × Bor Object) → List Object
with_digits digits claims = filter_map (λ c. if bytes_eq c.0.now digits then Some c.1.now else None) claims

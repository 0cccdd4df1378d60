-- Objects that were listed, by their names.
use Rattle.std.specs.Prelude.{ℕ, Bool, not, List, [], ◌∷◌, bytes_eq}
use Rattle.std.specs.List.{filter, list_any}
use Rattle.objects.specs.declared.object.Object.{Object}

-- one of these has the name
abbrev pub is_held : List Object → List ℕ → Bool
is_held os name = list_any (λ o. bytes_eq name o.key.name) os

-- of several with one name the first counts
abbrev pub first_of_each : List Object → List Object
first_of_each [] = []
first_of_each (o ∷ os) = o ∷ filter (λ p. not (bytes_eq p.key.name o.key.name)) (first_of_each os)

-- The line of a get as compact JSON with its members in byte order.
use Rattle.std.specs.Prelude.{ℕ, List, ◌++◌, codes}

abbrev pub get_text : List ℕ → List ℕ → List ℕ → List ℕ
get_text kind name namespace = codes "{\"do\":\"get\",\"kind\":\"" ++ (kind ++ (codes "\",\"name\":\"" ++ (name ++ (codes "\",\"namespace\":\"" ++ (namespace ++ codes "\"}")))))

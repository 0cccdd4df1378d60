-- The names of new revisions: a set's name and the first digits of a hash of the template (this project's own rule,
-- instead of the hash of Kubernetes; SHA-256 as FIPS 180-4 has it).
use Rattle.std.specs.Prelude.{ℕ, Bool, not, List, ◌++◌, map, codes, decimal, take, Option}
use Rattle.std.specs.List.{find, range_with_len}
use Rattle.hex.specs.Hex.{encode_lower}
use Rattle.sha2.specs.Sha256.{sha256}

-- the set's name, and the first hexadecimal digits of the digest of the text and the collision count
unfoldable pub revision_name : List ℕ → List ℕ → ℕ → ℕ → List ℕ
revision_name set text digits count = set ++ codes "-" ++ take digits (encode_lower (sha256 (text ++ decimal count)))

-- of the names of so many counts, from one on, the first that is not held
unfoldable pub first_free : (List ℕ → Bool) → (ℕ → List ℕ) → ℕ → ℕ → Option (List ℕ)
first_free held name from tries = find (λ s. not (held s)) (map name (range_with_len from tries))

-- how many counts are tried
abbrev pub most_tries : ℕ
most_tries = 1024

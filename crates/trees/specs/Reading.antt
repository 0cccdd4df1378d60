-- The reading of a tree (RFC 8259). The tests are made in this order: TooLong, NotJson, NotWhole.
use Rattle.std.specs.Prelude.{ℕ, not, nat_lt, List, length, Option, None, option_and_then, Result, Err, if◌then◌else◌}
use Rattle.std.specs.Str.{is_utf8}
use Rattle.serde_json.specs.Data.{Data}
use Rattle.json.specs.Json as json
use Rattle.json.specs.Lex.{tokens}
use Rattle.serde_json.specs.Read.{of_json, read}
use Rattle.serde_json.specs.Written.{has_float}
use Rattle.trees.specs.declared.fault.TreeError.{TreeError}
use Rattle.trees.specs.declared.fault.TreeError.TheVariants.{NotJson, NotWhole, TooLong}
use Rattle.trees.specs.Steps.{◌>>=◌, required, guarded}

-- the most bytes of one text
abbrev pub most_bytes : ℕ
most_bytes = 1048576

-- the JSON value that a text is, if it nests at most so deep
abbrev pub read_within : ℕ → List ℕ → Option Data
read_within most text = option_and_then of_json (option_and_then (λ p. json.if_last p.0 p.1) (json.value most (tokens text)))

-- the JSON value that the bytes are, if they are UTF-8 and nest at most 127 deep
abbrev pub json_value : List ℕ → Option Data
json_value bytes = if is_utf8 bytes then read bytes else None

-- a number that fits neither 64 bits unsigned nor signed is a float in `serde_json`'s reading
abbrev pub integral_value : Data → Result Data TreeError
integral_value d = guarded NotWhole (not (has_float d)) d

-- the value of a text that is short enough, and whose numbers are whole
unfoldable pub tree_reading : List ℕ → Result Data TreeError
tree_reading bytes = if nat_lt most_bytes (length bytes) then Err TooLong else required NotJson (json_value bytes) >>= integral_value

-- A text that was written of a canonical value is read as that value.
use Rattle.std.proofs.Common.{◌≡◌, ℕ, ◌≤◌, ◌<◌, List, length, Bool, true, false, nat_lt, Some, Ok, Err, refl, cond, arith}
use Rattle.std.specs.Str.{IsUtf8, is_utf8}
use Rattle.std.proofs.lemmas.Bool.{ltb-true}
use Rattle.std.proofs.lemmas.Str.{is_utf8-from_IsUtf8}
use Rattle.json.specs.Lex.{tokens}
use Rattle.json.specs.Tree.{json_tokens}
use Rattle.serde_json.specs.Data.{Data, depth}
use Rattle.serde_json.specs.Read.{read, max_depth}
use Rattle.serde_json.specs.Written.{outline, has_float}
use Rattle.trees.specs.declared.fault.TreeError.TheVariants.{NotJson, TooLong}
use Rattle.trees.specs.Canonical.{IsCanonical}
use Rattle.trees.specs.Steps.{◌>>=◌, required}
use Rattle.trees.specs.Reading.{most_bytes, json_value, integral_value, tree_reading}
use Rattle.trees.proofs.CanonicalText.{read_back}
use Rattle.trees.proofs.IntegralTokens.{no_float}

long_by : (b : Bool) (most n : ℕ) → nat_lt most n ≡ b → n ≤ most → b ≡ false
long_by true most n is short = absurd (let long : most < n = ltb-true most n is in omega arith)
long_by false most n is short = refl

data_by : (t : List ℕ) (d : Data) (long : Bool) → long ≡ false → is_utf8 t ≡ true → read t ≡ Some d → has_float d ≡ false → cond long (Err TooLong) (required NotJson (json_value t) >>= integral_value) ≡ Ok d
data_by t d long short text is whole = rw (short, text, is, whole) refl

-- a text with the tokens of a canonical value reads as that value
pub data_again : (d : Data) → IsCanonical d → (t : List ℕ) → IsUtf8 t → tokens t ≡ json_tokens (outline d) → length t ≤ most_bytes → depth d ≤ max_depth → tree_reading t ≡ Ok d
unfolding tree_reading
data_again d canonical t text same short shallow =
    data_by t d (nat_lt most_bytes (length t)) (long_by (nat_lt most_bytes (length t)) most_bytes (length t) refl short) (is_utf8-from_IsUtf8 t text) (read_back d t canonical same shallow) (no_float d t same)

use Rattle.std.proofs.Common.{◌≡◌, List, ℕ, Bool, true, false, Err, option_map, refl, sym, ap}
use Rattle.std.specs.Str.{IsUtf8, is_utf8}
use Rattle.std.proofs.lemmas.Str.{IsUtf8-from_is_utf8, is_utf8-from_IsUtf8}
use Rattle.serde_json.specs.Read.{read}
use Rattle.trees.specs.declared.fault.TreeError.TheVariants.{NotJson}
use Rattle.trees.specs.Steps.{required}
use Rattle.trees.specs.Integral.{if_integral}
use Rattle.trees.specs.Reading.{json_value}
use Rattle.trees.proofs.Chains.{gives_same}
use Rattle.trees.proofs.reader.TreeReader.read_text.Goals as goal

no_text : (bytes : List ℕ) (b : Bool) → is_utf8 bytes ≡ b → ¬ (IsUtf8 bytes) → required NotJson (option_map if_integral (json_value bytes)) ≡ Err NotJson
no_text bytes true is other = absurd (other (IsUtf8-from_is_utf8 bytes is))
no_text bytes false is other = rw is

as_text : (bytes text : List ℕ) → text ≡ bytes → IsUtf8 bytes → json_value bytes ≡ read text
as_text bytes text same is = rw (is_utf8-from_IsUtf8 bytes is) (ap read (sym same))

pub returns-in-Ok : goal.returns-in-Ok
returns-in-Ok c =
    gives_same _ c.tree_in.result _ _ (ap (λ o. required NotJson (option_map if_integral o)) (as_text c.args.bytes.now c.in-Ok.text.now c.in-Ok.ensures.0 c.in-Ok.ensures.1)) c.tree_in.ensures

pub returns-in-Err : goal.returns-in-Err
returns-in-Err c = no_text c.args.bytes.now (is_utf8 c.args.bytes.now) refl c.in-Err.ensures

use Rattle.std.proofs.Common.{◌≡◌, ◌==◌, ℕ, List, drop, get_or, Option, option_map, true, false, sym, ap, ◌∙◌, subst, arith, take_all, length-drop}
use Rattle.fast_float.specs.Text.{scan}
use Rattle.serde_json.specs.Data.{Num}
use Rattle.serde_json.specs.Find.{of_integer}
use Rattle.serde_json.specs.Read.{number_of, number_from}
use Rattle.trees.specs.declared.fault.TreeError.TheVariants.{NotJson}
use Rattle.trees.specs.Steps.{Gives, required}
use Rattle.trees.specs.Integral.{number_if_integer}
use Rattle.trees.proofs.number.number_in.Goals as goal

signed : (s : List ℕ) → true ≡ (get_or s 0 0 == 45) → number_from true (scan (drop 1 s)) ≡ number_of s
unfolding number_of
signed s minus = let first : (get_or s 0 0 == 45) ≡ true = sym minus in rw first

unsigned : (s : List ℕ) → false ≡ (get_or s 0 0 == 45) → number_from false (scan s) ≡ number_of s
unfolding number_of
unsigned s none = let first : (get_or s 0 0 == 45) ≡ false = sym none in rw first

pub returns-then-has_minus : goal.returns-then-has_minus
returns-then-has_minus c =
    let s = c.as_bytes-bytes.result.now in
    let parts : c.scan.result ≡ scan (drop 1 s) = c.scan.ensures.parts ∙ ap scan (take_all _ (drop 1 s) (omega (arith, length-drop 1 s))) in
    let read : number_from true c.scan.result ≡ number_of c.args.text.now = ap (number_from true) parts ∙ signed s c.if-has_minus.ensures.value ∙ ap number_of c.as_bytes-bytes.ensures.value in
    subst (λ (n : Option Num). Gives (option_map of_integer) c.number_below.result (required NotJson (option_map number_if_integer n))) read c.number_below.ensures

pub returns-else-has_minus : goal.returns-else-has_minus
returns-else-has_minus c =
    let s = c.as_bytes-bytes.result.now in
    let read : number_from false c.scan-else-has_minus.result ≡ number_of c.args.text.now =
    ap (number_from false) c.scan-else-has_minus.ensures.parts ∙ unsigned s c.if-has_minus.ensures.value ∙ ap number_of c.as_bytes-bytes.ensures.value in
    subst (λ (n : Option Num). Gives (option_map of_integer) c.count_in.result (required NotJson (option_map number_if_integer n))) read c.count_in.ensures

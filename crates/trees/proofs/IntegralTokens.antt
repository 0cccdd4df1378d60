-- The tokens of a text hold no number with no digits, so a value whose tokens they are has no float.
use Rattle.std.proofs.Common.{◌≡◌, ℕ, List, [], ◌++◌, Bool, false, ◌||◌, refl, sym, subst, append_assoc, append-nil}
use Rattle.json.specs.Token.{Token}
use Rattle.json.specs.Lex.{tokens}
use Rattle.json.specs.Word.{after_number}
use Rattle.json.specs.Print.{ArePrintableOrBad, IsNumber}
use Rattle.json.specs.Tree.{json_tokens, items_tokens, members_tokens}
use Rattle.json.proofs.Numbered.{ArePrintableOrBad-tokens}
use Rattle.serde_json.specs.Data.{Num, unsigned, negative, float, Data, null, boolean, number, string, array, object, Items, no_items, item, Members, no_members, member}
use Rattle.serde_json.specs.Find.{is_float}
use Rattle.serde_json.specs.Written.{number_text, outline, items_outline, members_outline, has_float, items_have_float, members_have_float}

not_number : IsNumber [] → ⊥
unfolding after_number
not_number h = absurd cc

no_float_number : (n : Num) → IsNumber (number_text n) → is_float n ≡ false
no_float_number (unsigned n) h = refl
no_float_number (negative z) h = refl
no_float_number (float x) h = absurd (not_number h)

pub either_no : (a b : Bool) → a ≡ false → b ≡ false → (a || b) ≡ false
either_no a b p q = rw (p, q) refl

mutual
  no_float_before : (d : Data) (rest : List Token) → ArePrintableOrBad (json_tokens (outline d) ++ rest) → (has_float d ≡ false) × ArePrintableOrBad rest
  no_float_before null rest h = (refl, h.1)
  no_float_before (boolean b) rest h = (refl, h.1)
  no_float_before (number n) rest h = (no_float_number n h.0, h.1)
  no_float_before (string s) rest h = (refl, h.1)
  no_float_before (array ds) rest h = no_float_items ds rest h.1
  no_float_before (object ms) rest h = no_float_members ms rest h.1

  no_float_items : (ds : Items) (rest : List Token) → ArePrintableOrBad (items_tokens (items_outline ds) ++ rest) → (items_have_float ds ≡ false) × ArePrintableOrBad rest
  no_float_items no_items rest h = (refl, h.1)
  no_float_items (item d ds) rest h =
      let first = no_float_before d (items_tokens (items_outline ds) ++ rest) (subst ArePrintableOrBad (append_assoc (json_tokens (outline d)) (items_tokens (items_outline ds)) rest) h) in
      let others = no_float_items ds rest first.1 in
      (either_no (has_float d) (items_have_float ds) first.0 others.0, others.1)

  no_float_members : (ms : Members) (rest : List Token) → ArePrintableOrBad (members_tokens (members_outline ms) ++ rest) → (members_have_float ms ≡ false) × ArePrintableOrBad rest
  no_float_members no_members rest h = (refl, h.1)
  no_float_members (member k d ms) rest h =
      let first = no_float_before d (members_tokens (members_outline ms) ++ rest) (subst ArePrintableOrBad (append_assoc (json_tokens (outline d)) (members_tokens (members_outline ms)) rest) h.1) in
      let others = no_float_members ms rest first.1 in
      (either_no (has_float d) (members_have_float ms) first.0 others.0, others.1)

-- a value whose tokens can be written has no float
pub no_float_printable : (d : Data) → ArePrintableOrBad (json_tokens (outline d)) → has_float d ≡ false
no_float_printable d h = (no_float_before d [] (subst ArePrintableOrBad (sym (append-nil (json_tokens (outline d)))) h)).0

-- a value with the tokens of a text has no float
pub no_float : (d : Data) (text : List ℕ) → tokens text ≡ json_tokens (outline d) → has_float d ≡ false
no_float d text same = no_float_printable d (subst ArePrintableOrBad same (ArePrintableOrBad-tokens text))

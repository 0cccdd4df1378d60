-- What is written of a tree, and that it goes down.
use Rattle.std.proofs.Common.{◌≡◌, ℕ, zero, suc, ◌<◌, ◌≤◌, List, [], ◌∷◌, length, get_or, Some, ap, subst, arith}
use Rattle.std.specs.Prelude.{ℤ, pos, negsuc}
use Rattle.serde_json.specs.Data.{depth, items_depth, members_depth}
use Rattle.serde_json.specs.Find.{of_integer}
use Rattle.serde_json.specs.Read.{number_of}
use Rattle.serde_json.specs.Written.{number_text}
use Rattle.serde_json.proofs.Numbers.{number_of-decimal, number_of-negative}
use Rattle.trees.specs.declared.integer.Number.{Number}
use Rattle.trees.specs.declared.integer.Number.TheVariants.{Count, Below}
use Rattle.trees.specs.Integer.{IsInteger, number_of as held_number}
use Rattle.trees.specs.declared.tree.Tree.{Tree}
use Rattle.trees.specs.Tree.{data_of, items_of, members_of}

canonical_number : (w : Number) → IsInteger w → number_of (number_text (of_integer (held_number w))) ≡ Some (of_integer (held_number w))
canonical_number (Count n) fits = number_of-decimal n fits
canonical_number (Below (pos n)) fits = absurd fits
canonical_number (Below (negsuc n)) fits = number_of-negative n fits

-- the number's digits are read as the number again
pub number_canonical : (w : Number) (z : ℤ) → held_number w ≡ z → IsInteger w → number_of (number_text (of_integer z)) ≡ Some (of_integer z)
number_canonical w z is fits = subst (λ x. number_of (number_text (of_integer x)) ≡ Some (of_integer x)) is (canonical_number w fits)

pub item_depth : (ts : List Tree) (i : ℕ) (t : Tree) → i < length ts → t ≡ get_or ts i t → depth (data_of t) ≤ items_depth (items_of ts)
item_depth [] i t inside is = absurd (omega arith)
item_depth (u ∷ ts) zero t inside is = let same : depth (data_of t) ≡ depth (data_of u) = ap (λ x. depth (data_of x)) is in omega arith
item_depth (u ∷ ts) (suc i) t inside is = omega (arith, item_depth ts i t (omega arith) is)

pub member_depth : (es : List (List ℕ × Tree)) (i : ℕ) (e : List ℕ × Tree) → i < length es → e ≡ get_or es i e → depth (data_of e.1) ≤ members_depth (members_of es)
member_depth [] i e inside is = absurd (omega arith)
member_depth (f ∷ es) zero e inside is = let same : depth (data_of e.1) ≡ depth (data_of f.1) = ap (λ x. depth (data_of x.1)) is in omega arith
member_depth (f ∷ es) (suc i) e inside is = omega (arith, member_depth es i e (omega arith) is)

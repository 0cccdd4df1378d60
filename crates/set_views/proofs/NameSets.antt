-- Sets of names that are borrowed: whether a name is one of theirs.
use Rattle.std.proofs.Common.{◌≡◌, ℕ, List, [], ◌∷◌, Bool, true, false, Bor, refl, sym, ap, ◌∙◌}
use Rattle.std.specs.Prelude.{◌&&◌, ◌||◌, not, bytes_eq}
use Rattle.std.specs.BTreeMap.{is_at}
use Rattle.std.specs.BTreeSet.{insert_key}
use Rattle.std.specs.Cmp.Lexicographic.{slice_cmp}
use Rattle.std.specs.List.{list_any}
use Rattle.std.specs.Ordering.{match_ordering, nat_cmp}
use Rattle.std.specs.declared.cmp.Ordering.{Ordering}
use Rattle.std.specs.declared.cmp.Ordering.TheVariants.{Less, Equal, Greater}
use Rattle.std.proofs.lemmas.Map.Lookups.{exact_bytes}
use Rattle.std.proofs.lemmas.Map.Text.{is_eq-slice_cmp}

abbrev pub Name : Type 0
Name = Bor (List ℕ)

-- whether the name is one of these
abbrev pub has_name : List ℕ → List Name → Bool
has_name q names = list_any (λ name. bytes_eq q name.now) names

abbrev pub by_bytes : Name → Name → Ordering
by_bytes a b = slice_cmp nat_cmp a.now b.now

pub contains_is : (k : Name) (names : List Name) → list_any (is_at (by_bytes k)) names ≡ has_name k.now names
contains_is k [] = refl
contains_is k (n ∷ names) = ap (λ b. b || list_any (is_at (by_bytes k)) names) (is_eq-slice_cmp k.now n.now) ∙ ap (λ b. bytes_eq k.now n.now || b) (contains_is k names)

or_again : (a b : Bool) → (a || b) ≡ (a || (a || b))
or_again true b = refl
or_again false b = refl

or_swap : (a b c : Bool) → (a || (b || c)) ≡ (b || (a || c))
or_swap true true c = refl
or_swap true false c = refl
or_swap false b c = refl

inserted_at : (o : Ordering) (q : List ℕ) (k n : Name) (names : List Name) → slice_cmp nat_cmp k.now n.now ≡ o → has_name q (insert_key by_bytes names k) ≡ (bytes_eq q k.now || has_name q names)
    → has_name q (match_ordering o (k ∷ n ∷ names) (n ∷ names) (n ∷ insert_key by_bytes names k)) ≡ (bytes_eq q k.now || (bytes_eq q n.now || has_name q names))
inserted_at Less q k n names is later = refl
inserted_at Equal q k n names is later = rw (exact_bytes k.now n.now is) (or_again (bytes_eq q n.now) (has_name q names))
inserted_at Greater q k n names is later = ap (λ b. bytes_eq q n.now || b) later ∙ or_swap (bytes_eq q n.now) (bytes_eq q k.now) (has_name q names)

-- a name that is put into the set is one of its names
pub has_name-insert_key : (q : List ℕ) (k : Name) (names : List Name) → has_name q (insert_key by_bytes names k) ≡ (bytes_eq q k.now || has_name q names)
has_name-insert_key q k [] = refl
has_name-insert_key q k (n ∷ names) = inserted_at (by_bytes k n) q k n names refl (has_name-insert_key q k names)

or_swapped : (a b : Bool) → (a || b) ≡ (b || (true && a))
or_swapped true true = refl
or_swapped true false = refl
or_swapped false true = refl
or_swapped false false = refl

-- a name was put among the names
pub name_taken : (kept : Bool) (q name : List ℕ) (k : Name) (before after : List Name) → kept ≡ true → after ≡ insert_key by_bytes before k → k.now ≡ name
    → has_name q after ≡ (has_name q before || (kept && bytes_eq q name))
name_taken kept q name k before after is after_is k_is =
    ap (has_name q) after_is ∙ (has_name-insert_key q k before ∙ (ap (λ s. bytes_eq q s || has_name q before) k_is
    ∙ (or_swapped (bytes_eq q name) (has_name q before) ∙ ap (λ b. has_name q before || (b && bytes_eq q name)) (sym is))))

-- what an insert returns for a name that was there, and for one that was not
pub was_there : (a b : Bool) → a ≡ not b → a ≡ false → b ≡ true
was_there a true is h = refl
was_there a false is h = absurd cc

pub was_new : (a b : Bool) → a ≡ not b → a ≡ true → b ≡ false
was_new a true is h = absurd cc
was_new a false is h = refl

-- Looking up a member, one entry after another.
use Rattle.std.proofs.Common.{◌≡◌, ℕ, ◌+◌, ◌<◌, List, ◌∷◌, length, get_or, drop, true, false, Option, Some, bytes_eq, refl, sym, ap, ◌∙◌}
use Rattle.std.proofs.Math.Bool.{true≢false}
use Rattle.std.proofs.lemmas.List.{drop_more}
use Rattle.std.specs.Ordering.{nat_cmp, match_ordering, is_eq}
use Rattle.std.specs.declared.cmp.Ordering.{Ordering}
use Rattle.std.specs.declared.cmp.Ordering.TheVariants.{Less, Equal, Greater}
use Rattle.std.specs.Cmp.Lexicographic.{slice_cmp}
use Rattle.std.proofs.lemmas.Map.Text.{is_eq-slice_cmp}
use Rattle.serde_json.specs.Data.{Data, Members, member}
use Rattle.serde_json.specs.Find.{get_member}
use Rattle.trees.specs.declared.tree.Tree.{Tree}
use Rattle.trees.specs.Tree.{data_of, members_of}

at_equal : (o : Ordering) (a b : Option Data) → is_eq o ≡ true → match_ordering o a b a ≡ b
at_equal Less a b e = absurd (true≢false (sym e))
at_equal Equal a b e = refl
at_equal Greater a b e = absurd (true≢false (sym e))

at_other : (o : Ordering) (a b : Option Data) → is_eq o ≡ false → match_ordering o a b a ≡ a
at_other Less a b e = refl
at_other Equal a b e = absurd (true≢false e)
at_other Greater a b e = refl

pub found_first : (q k : List ℕ) (d : Data) (ms : Members) → bytes_eq q k ≡ true → get_member q (member k d ms) ≡ Some d
found_first q k d ms e = at_equal (slice_cmp nat_cmp q k) _ _ (is_eq-slice_cmp q k ∙ e)

pub found_later : (q k : List ℕ) (d : Data) (ms : Members) → bytes_eq q k ≡ false → get_member q (member k d ms) ≡ get_member q ms
found_later q k d ms e = at_other (slice_cmp nat_cmp q k) _ _ (is_eq-slice_cmp q k ∙ e)

-- the entry at i is the first of those that are left
pub found_at : (q : List ℕ) (es : List (List ℕ × Tree)) (i : ℕ) (e : List ℕ × Tree) → i < length es → e ≡ get_or es i e → bytes_eq q e.0 ≡ true
    → get_member q (members_of (drop i es)) ≡ Some (data_of e.1)
found_at q es i e inside is same =
    ap (λ xs. get_member q (members_of xs)) (drop_more es i e inside ∙ ap (λ x. x ∷ drop (i + 1) es) (sym is)) ∙ found_first q e.0 _ _ same

pub passed_at : (q : List ℕ) (es : List (List ℕ × Tree)) (i : ℕ) (e : List ℕ × Tree) → i < length es → e ≡ get_or es i e → bytes_eq q e.0 ≡ false
    → get_member q (members_of (drop i es)) ≡ get_member q (members_of (drop (i + 1) es))
passed_at q es i e inside is other =
    ap (λ xs. get_member q (members_of xs)) (drop_more es i e inside ∙ ap (λ x. x ∷ drop (i + 1) es) (sym is)) ∙ found_later q e.0 _ _ other

-- Names that are added to borrowed texts, one after another.
use Rattle.std.proofs.Common.{◌≡◌, ℕ, Bool, true, false, cond, List, [], ◌∷◌, map, bytes_eq, Option, Some, None, refl, sym, ap, subst, ◌∙◌}
use Rattle.std.specs.Borrow.{Bor}
use Rattle.std.specs.List.{AllByRecursion}
use Rattle.std.specs.List.Sorted.{IsStrictlySortedBy}
use Rattle.std.specs.Map.{keys_of}
use Rattle.std.specs.Option.{option_or}
use Rattle.std.specs.Ordering.{is_eq, nat_cmp}
use Rattle.std.specs.declared.cmp.Ordering.{Ordering}
use Rattle.std.specs.declared.cmp.Ordering.TheVariants.{Less}
use Rattle.std.specs.Cmp.Lexicographic.{slice_cmp}
use Rattle.std.specs.BTreeMap.{BTreeMap, IsOrdered, Updates}
use Rattle.std.proofs.lemmas.Map.Text.{btree_map_updates_str, is_eq-slice_cmp}
use Rattle.std.proofs.lemmas.Slice.Eq.{bytes_eq-Decides}
use Rattle.version_map.specs.Named.{AreValues, Names, at_text, slot_at_text}
use Rattle.version_map.proofs.Named.{Text, by_bytes, by_name}

-- names as a map has them
abbrev pub Kept : Type 0
Kept = BTreeMap (List ℕ) ℕ

abbrev pub Texts : Type 0
Texts = BTreeMap (Bor (List ℕ)) ℕ

abbrev pub text_cmp : Bor (List ℕ) → Bor (List ℕ) → Ordering
text_cmp x y = slice_cmp nat_cmp x.now y.now

abbrev by_text : List (Bor (List ℕ) × ℕ) → List ℕ → Option ℕ
by_text es word = by_bytes (λ (k : Bor (List ℕ)). k.now) es word

-- with the names that are left all names are added
pub record IsAdding (old all : Texts) (names : Kept) (rest : List (Text × ℕ)) : Type 0 where
  pub ordered : IsStrictlySortedBy (slice_cmp nat_cmp) (keys_of rest)
  pub same : (word : List ℕ) → option_or (by_name rest word) (slot_at_text all word) ≡ option_or (at_text names word) (slot_at_text old word)

pub none_added : (old : Texts) (names : Kept) (rest : List (Text × ℕ)) → rest ≡ names.entries → IsOrdered (slice_cmp nat_cmp) names → IsAdding old old names rest
none_added old names rest is ordered = record {
  ordered = subst (λ es. IsStrictlySortedBy (slice_cmp nat_cmp) (keys_of es)) (sym is) ordered;
  same = λ word. ap (λ es. option_or (by_name es word) (slot_at_text old word)) is;
}

not_less : (r : Ordering) → r ≡ Less → is_eq r ≡ false
not_less r is = ap is_eq is

above_none : (n : Text) (es : List (Text × ℕ)) → AllByRecursion (λ q. slice_cmp nat_cmp n q ≡ Less) (keys_of es) → by_name es n ≡ None
above_none n [] h = refl
above_none n (e ∷ es) h = ap (λ b. cond b (Some e.1) (by_name es n)) (not_less (slice_cmp nat_cmp n e.0) h.0) ∙ above_none n es h.1

turned : (xs ys : List ℕ) (b : Bool) → bytes_eq xs ys ≡ b → bytes_eq ys xs ≡ b
turned xs ys true is = (bytes_eq-Decides ys xs).1 (sym ((bytes_eq-Decides xs ys).0 is))
turned xs ys false is = by (bytes_eq ys xs) refl
  where
    by : (b : Bool) → bytes_eq ys xs ≡ b → b ≡ false
    by false other = refl
    by true other = let both : true ≡ false = sym ((bytes_eq-Decides xs ys).1 (sym ((bytes_eq-Decides ys xs).0 other))) ∙ is in cc

later : (n : Text) (p : ℕ) (es : List (Text × ℕ)) → IsStrictlySortedBy (slice_cmp nat_cmp) (keys_of ((n, p) ∷ es)) → AllByRecursion (λ q. slice_cmp nat_cmp n q ≡ Less) (keys_of es) × IsStrictlySortedBy (slice_cmp nat_cmp) (keys_of es)
unfolding IsStrictlySortedBy
later n p es h = h

pub one_added : (old all next : Texts) (names : Kept) (rest more : List (Text × ℕ)) (n : Text) (p : ℕ) (key : Bor (List ℕ)) → rest ≡ (n, p) ∷ more → key.now ≡ n
    → Updates text_cmp all next key (Some p) → IsAdding old all names rest → IsAdding old next names more
one_added old all next names rest more n p key is text written adding = record {
  ordered = parts.1;
  same = λ word. by word (bytes_eq n word) refl ∙ adding.same word;
}
  where
    parts : AllByRecursion (λ q. slice_cmp nat_cmp n q ≡ Less) (keys_of more) × IsStrictlySortedBy (slice_cmp nat_cmp) (keys_of more)
    parts = later n p more (subst (λ es. IsStrictlySortedBy (slice_cmp nat_cmp) (keys_of es)) is adding.ordered)

    now : (word : List ℕ) → slot_at_text next word ≡ cond (bytes_eq n word) (Some p) (slot_at_text all word)
    now word = btree_map_updates_str key.now all next (Some p) written word ∙ ap (λ b. cond (bytes_eq b word) (Some p) (slot_at_text all word)) text

    here : (word : List ℕ) (b : Bool) → bytes_eq n word ≡ b → by_name rest word ≡ cond b (Some p) (by_name more word)
    here word b same = ap (λ es. by_name es word) is ∙ ap (λ c. cond c (Some p) (by_name more word)) (is_eq-slice_cmp word n ∙ turned n word b same)

    by : (word : List ℕ) (b : Bool) → bytes_eq n word ≡ b
        → option_or (by_name more word) (slot_at_text next word) ≡ option_or (by_name rest word) (slot_at_text all word)
    by word true same =
        ap (λ w. option_or (by_name more w) (slot_at_text next word)) (sym ((bytes_eq-Decides n word).0 same))
        ∙ ap (λ o. option_or o (slot_at_text next word)) (above_none n more parts.0) ∙ now word ∙ ap (λ b. cond b (Some p) (slot_at_text all word)) same
        ∙ sym (ap (λ o. option_or o (slot_at_text all word)) (here word true same))
    by word false same =
        ap (option_or (by_name more word)) (now word ∙ ap (λ b. cond b (Some p) (slot_at_text all word)) same) ∙ sym (ap (λ o. option_or o (slot_at_text all word)) (here word false same))

pub all_added : (old all : Texts) (names : Kept) (rest : List (Text × ℕ)) → rest ≡ [] → IsAdding old all names rest
    → (word : List ℕ) → slot_at_text all word ≡ option_or (at_text names word) (slot_at_text old word)
all_added old all names rest none adding word = ap (λ es. option_or (by_name es word) (slot_at_text all word)) (sym none) ∙ adding.same word

pub or_none : (o : Option ℕ) → option_or o None ≡ o
or_none None = refl
or_none (Some p) = refl

-- the slots of ordered texts are values

abbrev owned : List (Bor (List ℕ) × ℕ) → Names
owned [] = []
owned (e ∷ es) = (e.0.now, e.1) ∷ owned es

owned_below : (k : Bor (List ℕ)) (es : List (Bor (List ℕ) × ℕ)) → AllByRecursion (λ q. text_cmp k q ≡ Less) (keys_of es) → AllByRecursion (λ q. slice_cmp nat_cmp k.now q ≡ Less) (keys_of (owned es))
owned_below k [] h = tt
owned_below k (e ∷ es) h = (h.0, owned_below k es h.1)

owned_ordered : (es : List (Bor (List ℕ) × ℕ)) → IsStrictlySortedBy text_cmp (keys_of es) → IsStrictlySortedBy (slice_cmp nat_cmp) (keys_of (owned es))
unfolding IsStrictlySortedBy
owned_ordered [] h = tt
owned_ordered (e ∷ es) h = (owned_below e.0 es h.0, owned_ordered es h.1)

owned_values : (es : List (Bor (List ℕ) × ℕ)) → map (λ e. e.1) (owned es) ≡ map (λ e. e.1) es
owned_values [] = refl
owned_values (e ∷ es) = ap (λ vs. e.1 ∷ vs) (owned_values es)

owned_slots : (es : List (Bor (List ℕ) × ℕ)) (word : List ℕ) → by_name (owned es) word ≡ by_text es word
owned_slots [] word = refl
owned_slots (e ∷ es) word = ap (cond (is_eq (slice_cmp nat_cmp word e.0.now)) (Some e.1)) (owned_slots es word)

pub values_texts : (all : Texts) (values : List ℕ) → IsOrdered text_cmp all → values ≡ map (λ e. e.1) all.entries → AreValues values (slot_at_text all)
values_texts all values ordered are = (owned all.entries, owned_ordered all.entries ordered, owned_values all.entries ∙ sym are, owned_slots all.entries)

-- values are those of what is the same at each name
pub values_by : (values : List ℕ) (f g : List ℕ → Option ℕ) → ((word : List ℕ) → f word ≡ g word) → AreValues values f → AreValues values g
values_by values f g same are = (are.0, are.1, are.2, λ word. are.3 word ∙ same word)

pub nothing : (none : Texts) → none.entries ≡ [] → (word : List ℕ) → slot_at_text none word ≡ None
nothing none empty word = ap (λ es. by_text es word) empty

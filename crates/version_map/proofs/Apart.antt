-- Short and long names, each in a map of its own, as names.
use Rattle.std.proofs.Common.{◌≡◌, ◌<◌, ◌≤◌, ◌++◌, ◌∷◌, [], ℕ, List, length, Bool, true, false, cond, bytes_eq, Option, Some, None, refl, sym, ap, subst, ◌∙◌, arith}
use Rattle.std.specs.BTreeMap.{UpdatesBy}
use Rattle.std.specs.Option.{option_or}
use Rattle.std.specs.Ordering.{is_eq, nat_cmp}
use Rattle.std.specs.Cmp.Lexicographic.{slice_cmp}
use Rattle.std.proofs.lemmas.Slice.Eq.{bytes_eq-Decides}
use Rattle.version_map.specs.Named.{AreApart, Names, at_name, at_text}
use Rattle.version_map.proofs.Added.{Kept, or_none}
use Rattle.version_map.proofs.Named.{updates_text}

-- what follows others
at_append : (es fs : Names) (word : List ℕ) → at_name (es ++ fs) word ≡ option_or (at_name es word) (at_name fs word)
at_append [] fs word = refl
at_append (e ∷ es) fs word = by (is_eq (slice_cmp nat_cmp word e.0)) (at_append es fs word)
  where
    by : (b : Bool) → at_name (es ++ fs) word ≡ option_or (at_name es word) (at_name fs word)
        → cond b (Some e.1) (at_name (es ++ fs) word) ≡ option_or (cond b (Some e.1) (at_name es word)) (at_name fs word)
    by true rest = refl
    by false rest = rest

pub at_both : (short long : Kept) (word : List ℕ) → at_name (short.entries ++ long.entries) word ≡ option_or (at_text short word) (at_text long word)
at_both short long word = at_append short.entries long.entries word

again : (a b c : Option ℕ) → option_or a (option_or b c) ≡ option_or (option_or a b) c
again None b c = refl
again (Some p) b c = refl

-- both, and what was there before
pub beside : (short long : Kept) (names : Names) → short.entries ++ long.entries ≡ names → (word : List ℕ) (old : Option ℕ)
    → option_or (at_text short word) (option_or (at_text long word) old) ≡ option_or (at_name names word) old
beside short long names are word old =
    again (at_text short word) (at_text long word) old ∙ ap (λ o. option_or o old) (sym (at_both short long word)) ∙ ap (λ ns. option_or (at_name ns word) old) are

-- a change at a key that is the name
pub changed_at : (key name : List ℕ) (m next : Kept) (slot : Option ℕ) → key ≡ name → UpdatesBy (slice_cmp nat_cmp) (slice_cmp nat_cmp key) m next slot
    → (word : List ℕ) → at_text next word ≡ cond (bytes_eq name word) slot (at_text m word)
changed_at key name m next slot same written =
    subst (λ t. (word : List ℕ) → at_text next word ≡ cond (bytes_eq t word) slot (at_text m word)) same (updates_text key m next slot written)

module _ (short long : Kept) (apart : AreApart short long) (name : List ℕ) where
  pub at_short : length name ≤ 15 → at_text short name ≡ at_name (short.entries ++ long.entries) name
  at_short few = sym (at_both short long name ∙ ap (option_or (at_text short name)) (apart.1 name few) ∙ or_none (at_text short name))

  pub at_long : 15 < length name → at_text long name ≡ at_name (short.entries ++ long.entries) name
  at_long many = sym (at_both short long name ∙ ap (λ o. option_or o (at_text long name)) (apart.0 name many))

  module _ (next : Kept) (slot : Option ℕ) where
    -- a change at a short name
    module _ (few : length name ≤ 15) (now : (word : List ℕ) → at_text next word ≡ cond (bytes_eq name word) slot (at_text short word)) where
      pub apart_short : AreApart next long
      apart_short = ((λ word many. by word many (bytes_eq name word) refl), apart.1)
        where
          by : (word : List ℕ) → 15 < length word → (b : Bool) → bytes_eq name word ≡ b → at_text next word ≡ None
          by word many true is = let same : length name ≡ length word = ap length ((bytes_eq-Decides name word).0 is) in absurd (omega (arith, few, many))
          by word many false is = now word ∙ ap (λ b. cond b slot (at_text short word)) is ∙ apart.0 word many

      pub changed_short : (word : List ℕ) → at_name (next.entries ++ long.entries) word ≡ cond (bytes_eq name word) slot (at_name (short.entries ++ long.entries) word)
      changed_short word = at_both next long word ∙ ap (λ o. option_or o (at_text long word)) (now word) ∙ by (bytes_eq name word) refl
        where
          by : (b : Bool) → bytes_eq name word ≡ b
              → option_or (cond (bytes_eq name word) slot (at_text short word)) (at_text long word) ≡ cond (bytes_eq name word) slot (at_name (short.entries ++ long.entries) word)
          by true is =
              let same : name ≡ word = (bytes_eq-Decides name word).0 is in
              let none : at_text long word ≡ None = apart.1 word (let long_as : length name ≡ length word = ap length same in omega (arith, few)) in
              ap (λ b. option_or (cond b slot (at_text short word)) (at_text long word)) is ∙ ap (option_or slot) none ∙ or_none slot
              ∙ sym (ap (λ b. cond b slot (at_name (short.entries ++ long.entries) word)) is)
          by false is =
              ap (λ b. option_or (cond b slot (at_text short word)) (at_text long word)) is ∙ sym (at_both short long word)
              ∙ sym (ap (λ b. cond b slot (at_name (short.entries ++ long.entries) word)) is)

    -- and at a long one
    module _ (many : 15 < length name) (now : (word : List ℕ) → at_text next word ≡ cond (bytes_eq name word) slot (at_text long word)) where
      pub apart_long : AreApart short next
      apart_long = (apart.0, λ word few. by word few (bytes_eq name word) refl)
        where
          by : (word : List ℕ) → length word ≤ 15 → (b : Bool) → bytes_eq name word ≡ b → at_text next word ≡ None
          by word few true is = let same : length name ≡ length word = ap length ((bytes_eq-Decides name word).0 is) in absurd (omega (arith, few, many))
          by word few false is = now word ∙ ap (λ b. cond b slot (at_text long word)) is ∙ apart.1 word few

      pub changed_long : (word : List ℕ) → at_name (short.entries ++ next.entries) word ≡ cond (bytes_eq name word) slot (at_name (short.entries ++ long.entries) word)
      changed_long word = at_both short next word ∙ ap (option_or (at_text short word)) (now word) ∙ by (bytes_eq name word) refl
        where
          by : (b : Bool) → bytes_eq name word ≡ b
              → option_or (at_text short word) (cond (bytes_eq name word) slot (at_text long word)) ≡ cond (bytes_eq name word) slot (at_name (short.entries ++ long.entries) word)
          by true is =
              let same : name ≡ word = (bytes_eq-Decides name word).0 is in
              let none : at_text short word ≡ None = apart.0 word (let long_as : length name ≡ length word = ap length same in omega (arith, many)) in
              ap (λ b. option_or (at_text short word) (cond b slot (at_text long word))) is ∙ ap (λ o. option_or o slot) none
              ∙ sym (ap (λ b. cond b slot (at_name (short.entries ++ long.entries) word)) is)
          by false is =
              ap (λ b. option_or (at_text short word) (cond b slot (at_text long word))) is ∙ sym (at_both short long word)
              ∙ sym (ap (λ b. cond b slot (at_name (short.entries ++ long.entries) word)) is)

-- Functions that are changed at one number or at one key, and tests with their facts.
use Rattle.std.proofs.Common.{◌≡◌, ◌≢◌, ℕ, ◌<◌, ◌≤◌, ◌⊎◌, Bool, true, false, cond, refl, sym, ap, ◌∙◌, subst, inl, inr, nat_eq, nat_le, ne_eqb, eq-eqb, leb-true, leb-false}
use Rattle.std.proofs.lemmas.Bool.Decides.{eqb_tells}
use Rattle.std.proofs.lemmas.Cmp.{eq_by_cmp_equiv}
use Rattle.std.specs.Ordering.{eq_by_cmp}
use Rattle.objects.specs.declared.key.Key.{Key}
use Rattle.objects.specs.Key.{key_cmp}
use Rattle.objects.specs.KeyOrder.{equal_from, exact_keys, key_cmp_total}
use Rattle.interleavings.specs.World.{changed}

pub data Compared (i j : ℕ) : Type 0 where
  same : i ≡ j → nat_eq i j ≡ true → Compared i j
  other : i ≢ j → nat_eq i j ≡ false → Compared i j

pub compare : (i j : ℕ) → Compared i j
compare i j = go (eqb_tells i j)
  where
    go : ((nat_eq i j ≡ true) × (i ≡ j)) ⊎ ((nat_eq i j ≡ false) × (i ≢ j)) → Compared i j
    go (inl h) = same h.1 h.0
    go (inr h) = other h.1 h.0

pub eq_self : (i : ℕ) → nat_eq i i ≡ true
eq_self i = eq-eqb i i refl

pub changed-same : {A : Type 0} (f : ℕ → A) (i : ℕ) (x : A) → changed f i x i ≡ x
unfolding changed
changed-same f i x = ap (λ b. cond b x (f i)) (eq_self i)

pub changed-other : {A : Type 0} (f : ℕ → A) (i : ℕ) (x : A) (j : ℕ) → j ≢ i → changed f i x j ≡ f j
unfolding changed
changed-other f i x j h = ap (λ b. cond b x (f j)) (ne_eqb j i h)

-- what holds of the new value, and of each other one, holds of all
pub changed_all : {A : Type 0} (P : ℕ → A → Type 0) (f : ℕ → A) (i : ℕ) (x : A) → P i x → ((j : ℕ) → j ≢ i → P j (f j)) → (j : ℕ) → P j (changed f i x j)
changed_all P f i x h o j = go (compare j i)
  where
    go : Compared j i → P j (changed f i x j)
    go (same e b) = subst (λ v. P j v) (sym (ap (λ n. changed f i x n) e ∙ changed-same f i x)) (subst (λ n. P n x) (sym e) h)
    go (other n b) = subst (λ v. P j v) (sym (changed-other f i x j n)) (o j n)

-- a test's two answers, each with its fact
pub data Least (i j : ℕ) : Type 0 where
  atmost : i ≤ j → nat_le i j ≡ true → Least i j
  above : j < i → nat_le i j ≡ false → Least i j

pub least : (i j : ℕ) → Least i j
least i j = go (nat_le i j) refl
  where
    go : (b : Bool) → nat_le i j ≡ b → Least i j
    go true e = atmost (leb-true i j e) e
    go false e = above (leb-false i j e) e

-- ---- the same by keys
abbrev pub is_key_at : Key → Key → Bool
is_key_at k l = eq_by_cmp key_cmp k l

pub data ComparedKeys (k l : Key) : Type 0 where
  same_key : k ≡ l → is_key_at k l ≡ true → ComparedKeys k l
  other_key : k ≢ l → is_key_at k l ≡ false → ComparedKeys k l

pub key_self : (k : Key) → is_key_at k k ≡ true
key_self k = (eq_by_cmp_equiv key_cmp_total).refl k

pub keys_equal : (k l : Key) → is_key_at k l ≡ true → k ≡ l
keys_equal k l e = exact_keys k l (equal_from (key_cmp k l) e)

pub compare_keys : (k l : Key) → ComparedKeys k l
compare_keys k l = go (is_key_at k l) refl
  where
    go : (b : Bool) → is_key_at k l ≡ b → ComparedKeys k l
    go true e = same_key (keys_equal k l e) e
    go false e = other_key (λ x. let all : true ≡ false = sym (key_self k) ∙ ap (is_key_at k) x ∙ e in cc) e

pub changed_key : {A : Type 0} → (Key → A) → Key → A → Key → A
changed_key f k x = λ l. cond (is_key_at l k) x (f l)

pub changed_key-same : {A : Type 0} (f : Key → A) (k : Key) (x : A) → changed_key f k x k ≡ x
unfolding changed_key
changed_key-same f k x = ap (λ b. cond b x (f k)) (key_self k)

pub changed_key-other : {A : Type 0} (f : Key → A) (k : Key) (x : A) (l : Key) → l ≢ k → changed_key f k x l ≡ f l
unfolding changed_key
changed_key-other f k x l h = go (compare_keys l k)
  where
    go : ComparedKeys l k → cond (is_key_at l k) x (f l) ≡ f l
    go (same_key e b) = absurd (h e)
    go (other_key n b) = ap (λ v. cond v x (f l)) b

pub changed_key_all : {A : Type 0} (P : Key → A → Type 0) (f : Key → A) (k : Key) (x : A) → P k x → ((l : Key) → l ≢ k → P l (f l)) → (l : Key) → P l (changed_key f k x l)
changed_key_all P f k x h o l = go (compare_keys l k)
  where
    go : ComparedKeys l k → P l (changed_key f k x l)
    go (same_key e b) = subst (λ v. P l v) (sym (ap (λ n. changed_key f k x n) e ∙ changed_key-same f k x)) (subst (λ n. P n x) (sym e) h)
    go (other_key n b) = subst (λ v. P l v) (sym (changed_key-other f k x l n)) (o l n)

-- Claims under parts of their names.
use Rattle.std.proofs.Common.{◌≡◌, ℕ, ◌<◌, ◌^◌, List, [], ◌∷◌, ◌++◌, length, get_or, decimal, Bool, true, false, cond, Option, Some, None, Bor, refl, sym, ap, ◌∙◌, arith, lit<, append-nil, append_assoc, length-append, ◌+◌, map, take}
use Rattle.std.specs.Prelude.{bytes_eq, codes, option_map, ◌&&◌}
use Rattle.std.specs.BTreeMap.{BTreeMap, IsOrdered}
use Rattle.std.specs.Cmp.{IsEquivalence}
use Rattle.std.specs.Cmp.Lexicographic.{on_texts, slice_cmp}
use Rattle.std.specs.List.{IsDistinct, cons_option, filter_map}
use Rattle.std.specs.Map.{keys_of, lookup}
use Rattle.std.specs.Option.{option_map_or, unwrap_or}
use Rattle.std.specs.Global.{Vec}
use Rattle.std.specs.Ordering.{is_eq, nat_cmp}
use Rattle.std.proofs.lemmas.Cmp.{eq_by_cmp_equiv}
use Rattle.std.proofs.lemmas.List.Elements.{filter_map-append}
use Rattle.std.proofs.lemmas.Map.{NonePasses}
use Rattle.std.proofs.lemmas.Map.Entries.{none_past_head}
use Rattle.std.proofs.lemmas.Map.Keys.{IsDistinct-from_sorted}
use Rattle.std.proofs.lemmas.Map.Text.{is_eq-slice_cmp}
use Rattle.objects.specs.declared.object.Object.{Object}
use Rattle.std.specs.Str.{all_ascii_digits}
use Rattle.std.specs.Str.Pattern.{RFindsChar}
use Rattle.std.proofs.lemmas.Bool.{false_from_ne_true}
use Rattle.std.proofs.lemmas.Fmt.{digits_decimal}
use Rattle.std.proofs.lemmas.List.{get_or_at, map-append, take_more}
use Rattle.std.proofs.lemmas.Slice.Eq.{bytes_eq-Decides}
use Rattle.std.proofs.lemmas.Str.Parse.{not_in_digits, numerals_by_value, tells_all_ascii_digits}
use Rattle.std.proofs.lemmas.Str.Pattern.{NoCharPasses-char}
use Rattle.objects.proofs.PodNamesDiffer.{IsSplit, LacksDash, cut_at_last_dash}
use Rattle.objects.specs.PodNames.{claim_name, pod_name}
use Rattle.claims.specs.Listed.{found_in}
use Rattle.claims.specs.Pods.{claims_in, with_digits}

abbrev pub items_of : {T : Type 0} → Option (Vec T) → List T
items_of o = option_map_or (λ g. g.items) o []

items_or : {T : Type 0} (o : Option (Vec T)) (fresh : Vec T) → fresh.items ≡ [] → (unwrap_or o fresh).items ≡ items_of o
items_or None fresh is = is
items_or (Some v) fresh is = refl

-- what was there is removed, grows by one, and is put back
pub added : {T : Type 0} (same : Bool) (there found : Option (Vec T)) (fresh held next : Vec T) (item : T)
    → (same ≡ true → found ≡ there) → held ≡ unwrap_or found fresh → fresh.items ≡ [] → next.items ≡ held.items ++ item ∷ []
    → items_of (cond same (Some next) (cond same None there)) ≡ items_of there ++ cond same (item ∷ []) []
added true there found fresh held next item at is empty pushed =
    pushed ∙ ap (λ l. l ++ item ∷ []) (ap (λ v. v.items) is ∙ items_or found fresh empty ∙ ap items_of (at refl))
added false there found fresh held next item at is empty pushed = sym (append-nil (items_of there))

-- one item or none
pub one_if : {X : Type 0} (b : Bool) (x : X) → cons_option (cond b (Some x) None) [] ≡ cond b (x ∷ []) []
one_if true x = refl
one_if false x = refl

module _ {K X Y : Type 0} (f : X → Y) where
  -- what f reads of the entries whose keys pass
  abbrev pub all_at : (K → Bool) → List (K × X) → List Y
  all_at test es = filter_map (λ e. cond (test e.0) (Some (f e.1)) None) es

  none_at : (test : K → Bool) (es : List (K × X)) → NonePasses test es → all_at test es ≡ []
  none_at test [] none = refl
  none_at test (e ∷ es) none = ap (λ b. cons_option (cond b (Some (f e.1)) None) (all_at test es)) none.0 ∙ none_at test es none.1

  -- of entries with different keys no more than one is at a key
  pub one_at : {eq : K → K → Bool} → IsEquivalence eq → (q : K) (es : List (K × X)) → IsDistinct eq (keys_of es)
      → all_at (eq q) es ≡ cons_option (option_map f (lookup (eq q) es)) []
  unfolding IsDistinct
  one_at laws q [] apart = refl
  one_at {eq} laws q (e ∷ es) apart = by (eq q e.0) refl (one_at laws q es apart.1)
    where
      by : (b : Bool) → eq q e.0 ≡ b → all_at (eq q) es ≡ cons_option (option_map f (lookup (eq q) es)) []
          → cons_option (cond b (Some (f e.1)) None) (all_at (eq q) es) ≡ cons_option (option_map f (cond b (Some e.1) (lookup (eq q) es))) []
      by true is later = ap (λ l. f e.1 ∷ l) (none_at (eq q) es (none_past_head laws q e es apart is))
      by false is later = later

-- the entries of that name
abbrev pub named : List ℕ → List (Bor (List ℕ) × Bor Object) → List Object
named name es = all_at (λ o. o.now) (λ k. is_eq (slice_cmp nat_cmp name k.now)) es

pub one_named : (name : List ℕ) (claims : BTreeMap (Bor (List ℕ)) (Bor Object)) → IsOrdered (λ x y. slice_cmp nat_cmp x.now y.now) claims
    → named name claims.entries ≡ cons_option (found_in claims name) []
one_named name claims ordered =
    let cmp = λ (x : Bor (List ℕ)) (y : Bor (List ℕ)). slice_cmp nat_cmp x.now y.now in
    let key : Bor (List ℕ) = record { ref_ptr = (0, 0); now = name } in
    one_at (λ o. o.now) (eq_by_cmp_equiv (on_texts (λ k. k.now))) key claims.entries (IsDistinct-from_sorted cmp (keys_of claims.entries) ordered)

pub one_more : (name : List ℕ) (seen : List (Bor (List ℕ) × Bor Object)) (key : Bor (List ℕ)) (claim : Bor Object)
    → named name (seen ++ (key, claim) ∷ []) ≡ named name seen ++ cond (bytes_eq name key.now) (claim.now ∷ []) []
one_more name seen key claim =
    filter_map-append _ seen ((key, claim) ∷ []) ∙ ap (λ l. named name seen ++ l) (one_if _ claim.now ∙ ap (λ b. cond b (claim.now ∷ []) []) (is_eq-slice_cmp name key.now))

-- ---- names that are split at their last `-`

at_dash : (stem digits : List ℕ) → stem ++ codes "-" ++ digits ≡ stem ++ 45 ∷ digits
at_dash stem digits = append_assoc stem (codes "-") digits

-- a claim is called as a pod of a set `TEMPLATE-SET` would be
pub claim_stem : (t s : List ℕ) (i : ℕ) → pod_name (t ++ codes "-" ++ s) i ≡ claim_name t s i
claim_stem t s i = ap (λ l. l ++ decimal i) (append_assoc (t ++ codes "-") s (codes "-")) ∙ append_assoc (t ++ codes "-") (s ++ codes "-") (decimal i)

lacks_dash-decimal : (i : ℕ) → i < 2 ^ 32 → LacksDash (decimal i)
lacks_dash-decimal i small =
    let own = numerals_by_value (λ ds. all_ascii_digits ds ≡ true) tells_all_ascii_digits in
    not_in_digits own (decimal i) 45 (digits_decimal own i (omega arith)) (λ range. absurd (omega (arith, range.0)))

both : (a b c : Bool) → (a ≡ true → (b ≡ true) × (c ≡ true)) → (b ≡ true → c ≡ true → a ≡ true) → a ≡ b && c
both true b c to from = let parts = to refl in sym (ap (λ x. x && c) parts.0 ∙ parts.1)
both false true true to from = absurd (let clash : false ≡ true = from refl refl in cc)
both false true false to from = refl
both false false c to from = refl

-- a name that is split is a pod's if both parts are
pub split_as : (name front digits stem : List ℕ) (i : ℕ) → i < 2 ^ 32 → IsSplit name front digits
    → bytes_eq (pod_name stem i) name ≡ (bytes_eq front stem && bytes_eq digits (decimal i))
split_as name front digits stem i small cut =
    both (bytes_eq (pod_name stem i) name) (bytes_eq front stem) (bytes_eq digits (decimal i))
    (λ t.
    let is = (bytes_eq-Decides (pod_name stem i) name).0 t in
    let parts = cut_at_last_dash front stem digits (decimal i) cut.last (lacks_dash-decimal i small) (sym cut.joined ∙ sym is ∙ at_dash stem (decimal i)) in
    ((bytes_eq-Decides front stem).1 parts.0, (bytes_eq-Decides digits (decimal i)).1 parts.1))
    (λ s t.
    let front_is = (bytes_eq-Decides front stem).0 s in
    let digits_is = (bytes_eq-Decides digits (decimal i)).0 t in
    (bytes_eq-Decides (pod_name stem i) name).1
    (at_dash stem (decimal i) ∙ ap (λ f. f ++ 45 ∷ decimal i) (sym front_is) ∙ ap (λ d. front ++ 45 ∷ d) (sym digits_is) ∙ sym cut.joined))

-- a name with no `-` is no pod's
pub unsplit : (name stem : List ℕ) (i : ℕ) → RFindsChar 45 name None → bytes_eq (pod_name stem i) name ≡ false
unsplit name stem i none = false_from_ne_true (bytes_eq (pod_name stem i) name) (λ t.
    let is = sym (at_dash stem (decimal i)) ∙ (bytes_eq-Decides (pod_name stem i) name).0 t in
    NoCharPasses-char 45 name (length stem) none (lit< tt) (rw (← is) (omega (arith, length-append stem (45 ∷ decimal i))))
    (rw (← is) (get_or_at stem 45 (decimal i) 0 (length stem) refl)))

pub picked : (digits : List ℕ) (claim : Bor (List ℕ) × Bor Object) (b : Bool)
    → with_digits digits (cond b (claim ∷ []) []) ≡ cond (b && bytes_eq claim.0.now digits) (claim.1.now ∷ []) []
picked digits claim true = one_if (bytes_eq claim.0.now digits) claim.1.now
picked digits claim false = refl

-- one more claim is added to those under its digits
pub all_more : (digits : List ℕ) (claims : List (Bor (List ℕ) × Bor Object)) (i : ℕ) (claim : Bor (List ℕ) × Bor Object)
    (start : List Object) (before after : List (Bor (List ℕ) × Bor Object))
    → i < length claims → claim ≡ get_or claims i claim → after ≡ before ++ cond (bytes_eq claim.0.now digits) (claim ∷ []) []
    → claims_in before ≡ start ++ with_digits digits (take i claims) → claims_in after ≡ start ++ with_digits digits (take (i + 1) claims)
all_more digits claims i claim start before after inside is grown so_far =
    let more : take (i + 1) claims ≡ take i claims ++ claim ∷ [] = take_more claims i claim inside ∙ ap (λ v. take i claims ++ v ∷ []) (sym is) in
    ap (map (λ n. n.1.now)) grown ∙ map-append (λ n. n.1.now) before _
    ∙ ap (λ l. l ++ map (λ n. n.1.now) (cond (bytes_eq claim.0.now digits) (claim ∷ []) [])) so_far
    ∙ append_assoc start (with_digits digits (take i claims)) _
    ∙ ap (λ l. start ++ l) (ap (λ l. with_digits digits (take i claims) ++ l) (read (bytes_eq claim.0.now digits))
    ∙ sym (ap (with_digits digits) more ∙ filter_map-append _ (take i claims) (claim ∷ [])))
  where
    read : (b : Bool) → map (λ (n : Bor (List ℕ) × Bor Object). n.1.now) (cond b (claim ∷ []) []) ≡ cons_option (cond b (Some claim.1.now) None) []
    read true = refl
    read false = refl

-- A pod's name is split into the set and the ordinal that it is made of.
use Rattle.std.proofs.Common.{◌≡◌, ◌+◌, ◌<◌, ◌≤◌, ℕ, zero, suc, true, false, cond, List, [], ◌∷◌, ◌++◌, length, take, drop, refl, sym, ap, ◌∙◌, subst, arith, Option, Some, None, decimal, length-append, true≢false, Bor, inl, inr, map}
use Rattle.std.specs.Prelude.{◌&&◌, nat_lt, nat_le, bytes_eq, codes, option_map, IfSome, IfNone}
use Rattle.std.specs.Option.{is_some, option_map_or}
use Rattle.std.specs.Str.{all_ascii_digits}
use Rattle.std.specs.Str.Parse.{digits_value}
use Rattle.std.proofs.lemmas.Bool.{and_parts, cases_eq, leb-true, ltb-true, le-leb, lt-ltb}
use Rattle.std.proofs.lemmas.Fmt.{digits_value-decimal}
use Rattle.std.proofs.lemmas.List.{append_assoc, drop_at, take_at}
use Rattle.std.proofs.lemmas.Slice.Eq.{bytes_eq-Decides}
use Rattle.std.proofs.lemmas.Str.Parse.{IsNumeralModel, numerals_by_value, tells_all_ascii_digits}
use Rattle.objects.specs.declared.object.Object.{Object}
use Rattle.objects.specs.PodNames.{IsPodName, most_ordinal, pod_name}
use Rattle.objects.proofs.PodNamesDiffer.{pod_names-differ}
use Rattle.set_views.specs.declared.pod.PodView.{PodView}
use Rattle.set_views.specs.Pod.{split_name_of, pod_parts, pod_with}
use Rattle.pod_steps.specs.Views.{AreViews, IsViewOf}
use Rattle.sets.specs.SplitName.{is_split, number_behind, split_name_below, split_name_in}
use Rattle.sets.specs.PlanOfLists.{view_of}

-- a name that is split is a pod's
split_is : (name : List ℕ) (k : ℕ) → is_split name k ≡ true → IsPodName name (take k name) (number_behind name k)
split_is name k h =
    let a = and_parts (nat_lt 0 (length (take k name))) _ h in
    let b = and_parts (nat_le (number_behind name k) most_ordinal) _ a.1 in
    record { joined = (bytes_eq-Decides name (pod_name (take k name) (number_behind name k))).0 b.1; set_named = ltb-true 0 _ a.0; fits = leb-true _ _ b.0 }

pub found_below : (name : List ℕ) (n : ℕ) (s : List ℕ × ℕ) → split_name_below name n ≡ Some s → IsPodName name s.0 s.1
found_below name zero s is = let clash : false ≡ true = ap is_some is in absurd (true≢false (sym clash))
found_below name (suc k) s is =
    elim (is_split name k) as (λ b. is_split name k ≡ b → cond b (Some (take k name, number_behind name k)) (split_name_below name k) ≡ Some s → IsPodName name s.0 s.1) [
      | true ↦ λ split e.
          let same : (take k name, number_behind name k) ≡ s = ap (λ o. option_map_or (λ (p : List ℕ × ℕ). p) o s) e in
          subst (λ (p : List ℕ × ℕ). IsPodName name p.0 p.1) same (split_is name k split)
      | false ↦ λ split e. found_below name k s e
    ] refl is

not_below : (name : List ℕ) (n k : ℕ) → split_name_below name n ≡ None → k < n → is_split name k ≡ false
not_below name zero k none low = absurd (omega arith)
not_below name (suc m) k none low =
    elim (is_split name m) as (λ b. is_split name m ≡ b → cond b (Some (take m name, number_behind name m)) (split_name_below name m) ≡ None → is_split name k ≡ false) [
      | true ↦ λ split e. let clash : true ≡ false = ap is_some e in absurd (true≢false clash)
      | false ↦ λ split e. elim (cases_eq k m) [
        | inl same ↦ ap (is_split name) same ∙ split
        | inr other ↦ not_below name m k e (omega arith)
      ]
    ] refl none

own : IsNumeralModel (λ ds. all_ascii_digits ds ≡ true) (digits_value 10)
own = numerals_by_value (λ ds. all_ascii_digits ds ≡ true) tells_all_ascii_digits

-- a pod's name is split after its set
is_split_there : (name set : List ℕ) (i : ℕ) → IsPodName name set i → is_split name (length set) ≡ true
is_split_there name set i is =
    let k = length set in
    let taken : take k name ≡ set = ap (take k) (is.joined ∙ append_assoc set (codes "-") (decimal i)) ∙ take_at set (codes "-" ++ decimal i) k refl in
    let rest : drop (k + 1) name ≡ decimal i = ap (drop (k + 1)) is.joined ∙ drop_at (set ++ codes "-") (decimal i) (k + 1) (length-append set (codes "-")) in
    let number : number_behind name k ≡ i = ap (digits_value 10) rest ∙ digits_value-decimal own i (omega (arith, is.fits)) in
    let first : nat_lt 0 (length (take k name)) ≡ true = lt-ltb _ _ (subst (λ (l : List ℕ). 0 < length l) (sym taken) is.set_named) in
    let second : nat_le (number_behind name k) most_ordinal ≡ true = le-leb _ _ (subst (λ (n : ℕ). n ≤ most_ordinal) (sym number) is.fits) in
    let third : bytes_eq name (pod_name (take k name) (number_behind name k)) ≡ true =
    (bytes_eq-Decides name (pod_name (take k name) (number_behind name k))).1 (is.joined ∙ λ j. pod_name (sym taken j) (sym number j)) in
    λ j. first j && (second j && third j)

one_split_name : (name s t : List ℕ) (i j : ℕ) → IsPodName name s i → IsPodName name t j → (s ≡ t) × (i ≡ j)
one_split_name name s t i j a b = pod_names-differ s t i j (omega (arith, a.fits)) (omega (arith, b.fits)) (sym a.joined ∙ b.joined)

pub same_split_name : (name : List ℕ) (given : Option (List ℕ × ℕ)) → IfSome given (λ s. IsPodName name s.0 s.1) → IfNone given ((set : List ℕ) (ordinal : ℕ) → IsPodName name set ordinal → ⊥) → given ≡ split_name_in name
unfolding split_name_in
same_split_name name None some none =
    elim (split_name_in name) as (λ o. split_name_in name ≡ o → None ≡ o) [
      | None ↦ λ e. refl
      | Some s ↦ λ e. absurd (none s.0 s.1 (found_below name (length name) s e))
    ] refl
same_split_name name (Some s) some none =
    elim (split_name_in name) as (λ o. split_name_in name ≡ o → Some s ≡ o) [
      | None ↦ λ e. absurd (true≢false (sym (is_split_there name s.0 s.1 some) ∙ not_below name (length name) (length s.0) e (shorter name s.0 s.1 some)))
      | Some t ↦ λ e. let same = one_split_name name s.0 t.0 s.1 t.1 some (found_below name (length name) t e) in λ k. Some (same.0 k, same.1 k)
    ] refl
  where
    shorter : (name set : List ℕ) (i : ℕ) → IsPodName name set i → length set < length name
    shorter name set i is =
        let long : length name ≡ length set + 1 + length (decimal i) =
        ap length is.joined ∙ length-append (set ++ codes "-") (decimal i) ∙ ap (λ n. n + length (decimal i)) (length-append set (codes "-")) in
        omega arith

abbrev pub split_name_seen : Option (Bor (List ℕ) × ℕ) → Option (List ℕ × ℕ)
split_name_seen p = option_map (λ s. (s.0.now, s.1)) p

some_split_name : (P : List ℕ → ℕ → Type 0) (p : Option (Bor (List ℕ) × ℕ)) → IfSome p (λ s. P s.0.now s.1) → IfSome (split_name_seen p) (λ s. P s.0 s.1)
some_split_name P None h = tt
some_split_name P (Some s) h = h

no_split_name : (A : Type 0) (p : Option (Bor (List ℕ) × ℕ)) → IfNone p A → IfNone (split_name_seen p) A
no_split_name A None h = h
no_split_name A (Some s) h = tt

-- what is split off a name is what its definition says
pub seen_split_name : (name : List ℕ) (p : Option (Bor (List ℕ) × ℕ)) → IfSome p (λ s. IsPodName name s.0.now s.1) → IfNone p ((set : List ℕ) (ordinal : ℕ) → IsPodName name set ordinal → ⊥) → split_name_seen p ≡ split_name_in name
seen_split_name name p some none = same_split_name name (split_name_seen p) (some_split_name (IsPodName name) p some) (no_split_name _ p none)

-- what is read of a pod is one view
pub one_view : (o : Object) (view : PodView) → IsViewOf o view → pod_parts view ≡ view_of o
one_view o view is =
    is.parts ∙ ap (λ split_name. pod_with split_name o) (seen_split_name o.key.name view.split_name is.set_pod is.no_set_pod)

pub same_views : (os : List Object) (views : List PodView) → AreViews os views → map pod_parts views ≡ map view_of os
same_views [] [] are = refl
same_views [] (view ∷ views) are = absurd are
same_views (o ∷ os) [] are = absurd are
same_views (o ∷ os) (view ∷ views) are = let first = one_view o view are.0 in let rest = same_views os views are.1 in λ i. first i ∷ rest i

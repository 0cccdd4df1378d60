-- Changes of claims, one template after another.
use Rattle.std.proofs.Common.{◌≡◌, ℕ, ◌+◌, ◌<◌, ◌≤◌, List, [], ◌∷◌, ◌++◌, length, take, drop, get_or, Bool, true, false, cond, Option, Some, None, refl, sym, ap, ◌∙◌, arith, length-append}
use Rattle.std.specs.Prelude.{map, option_and_then}
use Rattle.std.specs.List.{cons_option, filter_map, list_all}
use Rattle.std.proofs.Math.Seq.{take-append_seam}
use Rattle.std.proofs.lemmas.List.{append-nil, take_all, take_more, take-append-drop}
use Rattle.std.proofs.lemmas.List.Elements.{All-get_or, filter_map-append}
use Rattle.std.proofs.lemmas.List.Sums.{AllPass-from_list_all}
use Rattle.serde_json.specs.Data.{Data}
use Rattle.objects.specs.declared.object.Object.{Object}
use Rattle.set_views.specs.Set.{SetParts}
use Rattle.claims.specs.declared.change.ClaimChange.TheVariants.{Update}
use Rattle.claims.specs.declared.owner.Owner.{Owner}
use Rattle.claims.specs.Changes.{entries_of, update, with_owner_entries}
use Rattle.claims.specs.Owners.{are_wanted, wanted_entries}

-- one more change, or none
pub change_more : {A B : Type 0} (h : A → Option B) (xs : List A) (i : ℕ) (x : A) (y : Option B) (done after : List B) → i < length xs → x ≡ get_or xs i x → done ≡ filter_map h (take i xs)
    → after ≡ done ++ cons_option y [] → y ≡ h x → after ≡ filter_map h (take (i + 1) xs)
change_more h xs i x y done after inside is so_far after_is here =
    after_is ∙ (ap (λ l. l ++ cons_option y []) so_far ∙ (ap (λ z. filter_map h (take i xs) ++ cons_option z []) here
    ∙ sym (ap (filter_map h) (take_more xs i x inside ∙ ap (λ v. take i xs ++ v ∷ []) (sym is)) ∙ filter_map-append h (take i xs) (x ∷ []))))

-- what is there is found first, and then changed
pub found_first : {A X B : Type 0} (f : X → Option B) (g : A → Option X) (xs : List A) → filter_map f (filter_map g xs) ≡ filter_map (λ x. option_and_then f (g x)) xs
found_first f g [] = refl
found_first {A} {X} {B} f g (x ∷ xs) = by (g x) (found_first f g xs)
  where
    by : (o : Option X) → filter_map f (filter_map g xs) ≡ filter_map (λ y. option_and_then f (g y)) xs
        → filter_map f (cons_option o (filter_map g xs)) ≡ cons_option (option_and_then f o) (filter_map (λ y. option_and_then f (g y)) xs)
    by None later = later
    by (Some y) later = ap (cons_option (f y)) later

pub read_first : {A X B : Type 0} (f : X → Option B) (g : A → X) (xs : List A) → filter_map (λ x. f (g x)) xs ≡ filter_map f (map g xs)
read_first f g [] = refl
read_first f g (x ∷ xs) = ap (cons_option (f (g x))) (read_first f g xs)

-- so many of the first are the first so many of all
pub enough : {A B : Type 0} (h : A → Option B) (xs : List A) (i n : ℕ) (done : List B) → done ≡ filter_map h (take i xs) → length done ≡ n → done ≡ take n (filter_map h xs)
enough h xs i n done is full =
    let rest = filter_map h (drop i xs) in
    let whole : filter_map h xs ≡ done ++ rest =
    sym (ap (filter_map h) (take-append-drop i xs)) ∙ (filter_map-append h (take i xs) (drop i xs) ∙ ap (λ l. l ++ rest) (sym is)) in
    sym (ap (take n) whole ∙ (ap (λ k. take k (done ++ rest)) (sym full) ∙ take-append_seam done rest))

-- few are the first of them all
pub few : {B : Type 0} (n : ℕ) (done all : List B) → done ≡ all → length done ≤ n → done ≡ take n all
few n done all is short = sym (take_all n done short) ∙ ap (take n) is

-- if there was room, there is room after one more change or none
pub has_room : {B : Type 0} (done after : List B) (y : Option B) (n : ℕ) → after ≡ done ++ cons_option y [] → length done ≤ n → (length done ≡ n → ⊥) → length after ≤ n
has_room done after None n is few other =
    let long : length after ≡ length done = ap length (is ∙ append-nil done) in omega arith
has_room done after (Some y) n is few other =
    let long : length after ≡ length done + 1 = ap length is ∙ length-append done (y ∷ []) in
    let less : length done < n = below (length done) n few other in
    omega arith
  where
    below : (a b : ℕ) → a ≤ b → (a ≡ b → ⊥) → a < b
    below a b le other = omega (arith, other)

-- what all pass, each passes
pub passes_at : {A : Type 0} (p : A → Bool) (xs : List A) (i : ℕ) (x : A) → list_all p xs ≡ true → i < length xs → x ≡ get_or xs i x → p x ≡ true
passes_at p xs i x all inside is = ap p is ∙ All-get_or (λ y. p y ≡ true) xs i x inside (AllPass-from_list_all p xs all)

module _ (set : SetParts) (pod : List ℕ) (owner : Option Owner) (claim : Object) (entries : List Data) where
  pub no_update : entries ≡ entries_of claim → are_wanted set pod owner entries ≡ true → None ≡ update set pod owner claim
  no_update is h =
      sym (ap (λ b. cond b None (Some (Update (with_owner_entries claim (wanted_entries set pod owner (entries_of claim)))))) (ap (are_wanted set pod owner) (sym is) ∙ h))

  pub some_update : entries ≡ entries_of claim → are_wanted set pod owner entries ≡ false → Some (Update (with_owner_entries claim (wanted_entries set pod owner entries))) ≡ update set pod owner claim
  some_update is h =
      ap (λ ds. Some (Update (with_owner_entries claim (wanted_entries set pod owner ds)))) is
      ∙ sym (ap (λ b. cond b None (Some (Update (with_owner_entries claim (wanted_entries set pod owner (entries_of claim)))))) (ap (are_wanted set pod owner) (sym is) ∙ h))

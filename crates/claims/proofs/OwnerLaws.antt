-- Which of a claim's own owners are among those that it is to have.
use Rattle.std.proofs.Common.{◌≡◌, ℕ, List, [], ◌∷◌, ◌++◌, Bool, true, false, not, cond, filter, Option, Some, None, refl, sym, ap, ◌∙◌}
use Rattle.std.specs.Prelude.{◌&&◌, ◌||◌}
use Rattle.std.specs.List.{list_all, list_any}
use Rattle.std.proofs.lemmas.Bool.{and_parts}
use Rattle.std.proofs.lemmas.List.{append-nil}
use Rattle.std.proofs.lemmas.List.Elements.{filter-append}
use Rattle.std.proofs.lemmas.List.Folds.{list_all-append, list_any-append}
use Rattle.std.proofs.lemmas.Slice.Eq.{bytes_eq-Decides}
use Rattle.serde_json.specs.Data.{Data}
use Rattle.objects.specs.declared.object.Object.{Object}
use Rattle.objects.specs.Uid.{uid_text}
use Rattle.set_views.specs.declared.policies.Retention.TheVariants.{Retain}
use Rattle.set_views.specs.Set.{SetParts}
use Rattle.claims.specs.declared.change.ClaimChange.TheVariants.{Update}
use Rattle.claims.specs.declared.owner.Owner.{Owner}
use Rattle.claims.specs.declared.owner.Owner.TheVariants as owners
use Rattle.claims.specs.Changes.{entries_of, update, with_owner_entries}
use Rattle.claims.specs.Owners.{are_wanted, is_of, is_of_pod, is_of_set, is_stranger, known_uid, owner_in_range, owner_of_condemned, reference_to, stays, unless_retained, wanted_entries}

or_second : (b c : Bool) → c ≡ true → (b || c) ≡ true
or_second true c h = refl
or_second false c h = h

and_false : (b : Bool) → (b && false) ≡ false
and_false true = refl
and_false false = refl

never_true : (b : Bool) → (b ≡ true → false ≡ true) → b ≡ false
never_true true f = absurd (cc (f refl))
never_true false f = refl

within_at : (b : Bool) (p : Data → Bool) (d : Data) (some all : List Data) → (p d ≡ true → b ≡ true) → filter p some ≡ filter p all → filter p (cond b (d ∷ some) some) ≡ filter p (d ∷ all)
within_at true p d some all h rest = ap (λ l. cond (p d) (d ∷ l) l) rest
within_at false p d some all h rest = rest ∙ sym (ap (λ c. cond c (d ∷ filter p all) (filter p all)) (never_true (p d) h))

-- what passes both tests
filter_within : (p q : Data → Bool) → ((d : Data) → p d ≡ true → q d ≡ true) → (ds : List Data) → filter p (filter q ds) ≡ filter p ds
filter_within p q h [] = refl
filter_within p q h (d ∷ ds) = within_at (q d) p d (filter q ds) ds (h d) (filter_within p q h ds)

stranger_stays : (set : SetParts) (pod : List ℕ) (owner : Option Owner) (d : Data) → is_stranger set pod owner d ≡ true → stays set pod owner d ≡ true
stranger_stays set pod None d h = h
stranger_stays set pod (Some owners.Set) d h =
    let both = (and_parts (not (is_of_set set d) && not (is_of_pod pod d)) (not (is_of_set set d)) h).0 in
    (and_parts (not (is_of_set set d)) (not (is_of_pod pod d)) both).1
stranger_stays set pod (Some (owners.Pod uid)) d h =
    or_second (is_of set (owners.Pod uid) d) (not (is_of_set set d) && not (is_of_pod pod d))
    (and_parts (not (is_of_set set d) && not (is_of_pod pod d)) (not (is_of set (owners.Pod uid) d)) h).0

new_entry_is_of : (set : SetParts) (pod : List ℕ) (owner : Owner) → is_of set owner (reference_to set pod owner) ≡ true
new_entry_is_of set pod owners.Set = (bytes_eq-Decides (uid_text set.object.meta.uid) (uid_text set.object.meta.uid)).1 refl
new_entry_is_of set pod (owners.Pod uid) = (bytes_eq-Decides uid uid).1 refl

no_stranger : (set : SetParts) (pod : List ℕ) (owner : Owner) → is_stranger set pod (Some owner) (reference_to set pod owner) ≡ false
no_stranger set pod owner =
    let before = not (is_of_set set (reference_to set pod owner)) && not (is_of_pod pod (reference_to set pod owner)) in
    ap (λ b. before && not b) (new_entry_is_of set pod owner) ∙ and_false before

strangers_at : (b : Bool) (set : SetParts) (pod : List ℕ) (owner : Owner) (ds : List Data)
    → filter (is_stranger set pod (Some owner)) (cond b ds (ds ++ reference_to set pod owner ∷ [])) ≡ filter (is_stranger set pod (Some owner)) ds
strangers_at true set pod owner ds = refl
strangers_at false set pod owner ds =
    let p = is_stranger set pod (Some owner) in
    filter-append p ds (reference_to set pod owner ∷ [])
    ∙ (ap (λ b. filter p ds ++ cond b (reference_to set pod owner ∷ []) []) (no_stranger set pod owner) ∙ append-nil (filter p ds))

pub strangers_stay : (set : SetParts) (pod : List ℕ) (owner : Option Owner) (entries : List Data) → filter (is_stranger set pod owner) (wanted_entries set pod owner entries) ≡ filter (is_stranger set pod owner) entries
strangers_stay set pod None entries = filter_within (is_stranger set pod None) (stays set pod None) (stranger_stays set pod None) entries
strangers_stay set pod (Some owner) entries =
    let kept = filter (stays set pod (Some owner)) entries in
    strangers_at (list_any (is_of set owner) kept) set pod owner kept
    ∙ filter_within (is_stranger set pod (Some owner)) (stays set pod (Some owner)) (stranger_stays set pod (Some owner)) entries

none_at : (b : Bool) (p : Data → Bool) (d : Data) (ds : List Data) → (b ≡ true → p d ≡ false) → list_any p ds ≡ false → list_any p (cond b (d ∷ ds) ds) ≡ false
none_at true p d ds h rest = rw (h refl, rest) refl
none_at false p d ds h rest = rest

none_left : (p q : Data → Bool) → ((d : Data) → q d ≡ true → p d ≡ false) → (ds : List Data) → list_any p (filter q ds) ≡ false
none_left p q h [] = refl
none_left p q h (d ∷ ds) = none_at (q d) p d (filter q ds) (h d) (none_left p q h ds)

neither : (a b : Bool) → (not a && not b) ≡ true → (a || b) ≡ false
neither true b h = absurd cc
neither false true h = absurd cc
neither false false h = refl

unowned : (set : SetParts) (pod : List ℕ) (owner : Option Owner) (entries : List Data) → owner ≡ None → list_any (λ d. is_of_set set d || is_of_pod pod d) (wanted_entries set pod owner entries) ≡ false
unowned set pod None entries h =
    none_left (λ d. is_of_set set d || is_of_pod pod d) (stays set pod None) (λ d t. neither (is_of_set set d) (is_of_pod pod d) t) entries
unowned set pod (Some owner) entries h = absurd cc

module _ (set : SetParts) (pod : List ℕ) where
  pub retained_in_range : (entries : List Data) → set.when_deleted ≡ Retain → list_any (λ d. is_of_set set d || is_of_pod pod d) (wanted_entries set pod (owner_in_range set) entries) ≡ false
  retained_in_range entries deleted =
      unowned set pod (owner_in_range set) entries (ap (λ r. unless_retained r None (Some owners.Set)) deleted)

  pub retained_condemned : (uid : ℕ) (entries : List Data) → set.when_deleted ≡ Retain → set.when_scaled ≡ Retain
      → list_any (λ d. is_of_set set d || is_of_pod pod d) (wanted_entries set pod (owner_of_condemned set uid) entries) ≡ false
  retained_condemned uid entries deleted scaled =
      unowned set pod (owner_of_condemned set uid) entries
      (ap (λ r. unless_retained r (owner_in_range set) (Some (owners.Pod (known_uid uid)))) scaled ∙ ap (λ r. unless_retained r None (Some owners.Set)) deleted)

changed_is : (b : Bool) (u changed : Object) → cond b None (Some (Update u)) ≡ Some (Update changed) → u ≡ changed
changed_is true u changed h = absurd cc
changed_is false u changed h = cc

module _ (set : SetParts) (pod : List ℕ) (owner : Option Owner) (claim changed : Object) where
  pub update_is : update set pod owner claim ≡ Some (Update changed) → with_owner_entries claim (wanted_entries set pod owner (entries_of claim)) ≡ changed
  update_is h = changed_is (are_wanted set pod owner (entries_of claim)) (with_owner_entries claim (wanted_entries set pod owner (entries_of claim))) changed h

passed_at : (b : Bool) (p : Data → Bool) (d : Data) (ds : List Data) → p d ≡ b → list_all p ds ≡ true → list_all p (cond b (d ∷ ds) ds) ≡ true
passed_at true p d ds here rest = rw (here, rest) refl
passed_at false p d ds here rest = rest

all_pass : (p : Data → Bool) (ds : List Data) → list_all p (filter p ds) ≡ true
all_pass p [] = refl
all_pass p (d ∷ ds) = passed_at (p d) p d (filter p ds) refl (all_pass p ds)

all_kept : (p : Data → Bool) (ds : List Data) → list_all p ds ≡ true → filter p ds ≡ ds
all_kept p [] h = refl
all_kept p (d ∷ ds) h =
    let parts = and_parts (p d) (list_all p ds) h in
    ap (λ b. cond b (d ∷ filter p ds) (filter p ds)) parts.0 ∙ ap (λ l. d ∷ l) (all_kept p ds parts.1)

new_entry_stays : (set : SetParts) (pod : List ℕ) (owner : Owner) → stays set pod (Some owner) (reference_to set pod owner) ≡ true
new_entry_stays set pod owners.Set = refl
new_entry_stays set pod (owners.Pod uid) =
    let entry = reference_to set pod (owners.Pod uid) in
    ap (λ b. b || (not (is_of_set set entry) && not (is_of_pod pod entry))) (new_entry_is_of set pod (owners.Pod uid))

owned_at : (b : Bool) (set : SetParts) (pod : List ℕ) (owner : Owner) (ds : List Data) → list_any (is_of set owner) ds ≡ b → list_all (stays set pod (Some owner)) ds ≡ true
    → are_wanted set pod (Some owner) (cond b ds (ds ++ reference_to set pod owner ∷ [])) ≡ true
owned_at true set pod owner ds there all = rw (all, there) refl
owned_at false set pod owner ds there all =
    let entry = reference_to set pod owner in
    rw (list_all-append (stays set pod (Some owner)) ds (entry ∷ []), all, new_entry_stays set pod owner, list_any-append (is_of set owner) ds (entry ∷ []), there, new_entry_is_of set pod owner) refl

pub wanted_again : (set : SetParts) (pod : List ℕ) (owner : Option Owner) (entries : List Data) → are_wanted set pod owner (wanted_entries set pod owner entries) ≡ true
wanted_again set pod None entries = rw (all_pass (stays set pod None) entries) refl
wanted_again set pod (Some owner) entries =
    let kept = filter (stays set pod (Some owner)) entries in
    owned_at (list_any (is_of set owner) kept) set pod owner kept refl (all_pass (stays set pod (Some owner)) entries)

module _ (set : SetParts) (pod : List ℕ) where
  pub as_wanted : (owner : Option Owner) (entries : List Data) → are_wanted set pod owner entries ≡ true → wanted_entries set pod owner entries ≡ entries
  as_wanted None entries h = all_kept (stays set pod None) entries (and_parts (list_all (stays set pod None) entries) true h).0
  as_wanted (Some owner) entries h =
      let parts = and_parts (list_all (stays set pod (Some owner)) entries) (list_any (is_of set owner) entries) h in
      ap (λ l. cond (list_any (is_of set owner) l) l (l ++ reference_to set pod owner ∷ [])) (all_kept (stays set pod (Some owner)) entries parts.0)
      ∙ ap (λ b. cond b entries (entries ++ reference_to set pod owner ∷ [])) parts.1

  pub not_as_wanted : (owner : Option Owner) (entries : List Data) → are_wanted set pod owner entries ≡ false → wanted_entries set pod owner entries ≡ entries → ⊥
  not_as_wanted owner entries h same = absurd (cc (sym (ap (are_wanted set pod owner) same) ∙ wanted_again set pod owner entries))

-- Entries of owner references as trees and as data, and that those of a claim are owners.
use Rattle.std.proofs.Common.{◌≡◌, ℕ, List, [], ◌∷◌, ◌++◌, Bool, true, false, cond, map, filter, length, Option, Some, None, refl, sym, ap, ◌∙◌, arith}
use Rattle.std.specs.Prelude.{◌==◌, ◌&&◌, ◌||◌, option_map}
use Rattle.std.specs.List.{list_all, list_any}
use Rattle.std.proofs.lemmas.Bool.{and_parts, eqb-true}
use Rattle.std.proofs.lemmas.List.{map-append}
use Rattle.std.proofs.lemmas.List.Folds.{list_all-append}
use Rattle.serde_json.specs.Data.{Data, array}
use Rattle.serde_json.specs.View as view
use Rattle.objects.specs.DeclaredTree.{Tree}
use Rattle.objects.specs.MetadataShape.{are_owners, is_owner, owners_fit}
use Rattle.objects.specs.Tree.{data_of, items_of}
use Rattle.set_views.specs.Set.{SetParts}
use Rattle.manifests.proofs.ItemLists.{items_of_trees}
use Rattle.claims.specs.declared.owner.Owner.{Owner}
use Rattle.claims.specs.declared.owner.Owner.TheVariants as owners
use Rattle.claims.specs.Changes.{items_if_any}
use Rattle.claims.specs.Owners.{is_of, reference_to, stays, wanted_entries, with_owner}

pub any_trees : (p : Data → Bool) (ts : List Tree) → list_any p (map data_of ts) ≡ list_any (λ t. p (data_of t)) ts
any_trees p [] = refl
any_trees p (t ∷ ts) = ap (λ b. p (data_of t) || b) (any_trees p ts)

pub all_trees : (p : Data → Bool) (ts : List Tree) → list_all p (map data_of ts) ≡ list_all (λ t. p (data_of t)) ts
all_trees p [] = refl
all_trees p (t ∷ ts) = ap (λ b. p (data_of t) && b) (all_trees p ts)

fit_list : (ds : List Data) → are_owners (view.items_of ds) ≡ list_all is_owner ds
fit_list [] = refl
fit_list (d ∷ ds) = ap (λ b. is_owner d && b) (fit_list ds)

pub fit_trees : (ts : List Tree) → are_owners (items_of ts) ≡ list_all is_owner (map data_of ts)
fit_trees ts = ap are_owners (items_of_trees ts) ∙ fit_list (map data_of ts)

all_kept_at : (b : Bool) (p : Data → Bool) (d : Data) (ds : List Data) → p d ≡ true → list_all p ds ≡ true → list_all p (cond b (d ∷ ds) ds) ≡ true
all_kept_at true p d ds here rest = rw here rest
all_kept_at false p d ds here rest = rest

all_kept : (p q : Data → Bool) (ds : List Data) → list_all p ds ≡ true → list_all p (filter q ds) ≡ true
all_kept p q [] h = refl
all_kept p q (d ∷ ds) h = let parts = and_parts (p d) (list_all p ds) h in all_kept_at (q d) p d (filter q ds) parts.0 (all_kept p q ds parts.1)

new_entry_fits : (set : SetParts) (pod : List ℕ) (owner : Owner) → is_owner (reference_to set pod owner) ≡ true
new_entry_fits set pod owners.Set = refl
new_entry_fits set pod (owners.Pod uid) = refl

owned_at : (b : Bool) (set : SetParts) (pod : List ℕ) (owner : Owner) (ds : List Data) → list_all is_owner ds ≡ true → list_all is_owner (cond b ds (ds ++ reference_to set pod owner ∷ [])) ≡ true
owned_at true set pod owner ds h = h
owned_at false set pod owner ds h = list_all-append is_owner ds (reference_to set pod owner ∷ []) ∙ rw (h, new_entry_fits set pod owner) refl

owned_fit : (set : SetParts) (pod : List ℕ) (owner : Option Owner) (ds : List Data) → list_all is_owner ds ≡ true → list_all is_owner (with_owner set pod owner ds) ≡ true
owned_fit set pod None ds h = h
owned_fit set pod (Some owner) ds h = owned_at (list_any (is_of set owner) ds) set pod owner ds h

-- the entries that a claim is to have are owners, if those that it has are
pub wanted_fit : (set : SetParts) (pod : List ℕ) (owner : Option Owner) (ds : List Data) → list_all is_owner ds ≡ true → list_all is_owner (wanted_entries set pod owner ds) ≡ true
wanted_fit set pod owner ds h = owned_fit set pod owner (filter (stays set pod owner) ds) (all_kept is_owner (stays set pod owner) ds h)

pub items_if_any_fit : (ds : List Data) → list_all is_owner ds ≡ true → owners_fit (option_map array (items_if_any ds)) ≡ true
items_if_any_fit [] h = refl
items_if_any_fit (d ∷ ds) h = fit_list (d ∷ ds) ∙ h

pub none_given : (ts : List Tree) → (length ts == 0) ≡ true → None ≡ items_if_any (map data_of ts)
none_given [] none = refl
none_given (t ∷ ts) none = let e : length (t ∷ ts) ≡ 0 = eqb-true (length (t ∷ ts)) 0 none in absurd (omega arith)

pub some_given : (ts : List Tree) → (length ts == 0) ≡ false → Some (items_of ts) ≡ items_if_any (map data_of ts)
some_given [] some = absurd cc
some_given (t ∷ ts) some = ap Some (items_of_trees (t ∷ ts))

module _ (set : SetParts) (pod : List ℕ) (owner : Owner) (ts : List Tree) where
  pub owned_already : list_any (λ t. is_of set owner (data_of t)) ts ≡ true → map data_of ts ≡ with_owner set pod (Some owner) (map data_of ts)
  owned_already h = sym (ap (λ b. cond b (map data_of ts) (map data_of ts ++ reference_to set pod owner ∷ [])) (any_trees (is_of set owner) ts ∙ h))

  pub owned_now : (t : Tree) → list_any (λ t. is_of set owner (data_of t)) ts ≡ false → data_of t ≡ reference_to set pod owner → map data_of (ts ++ t ∷ []) ≡ with_owner set pod (Some owner) (map data_of ts)
  owned_now t h is =
      map-append data_of ts (t ∷ []) ∙ (ap (λ d. map data_of ts ++ d ∷ []) is
      ∙ sym (ap (λ b. cond b (map data_of ts) (map data_of ts ++ reference_to set pod owner ∷ [])) (any_trees (is_of set owner) ts ∙ h)))

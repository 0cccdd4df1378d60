-- Trees, items and lists of data.
use Rattle.std.proofs.Common.{◌≡◌, ℕ, ◌+◌, ◌<◌, List, [], ◌∷◌, ◌++◌, length, take, map, filter, get_or, Bool, false, cond, Some, refl, sym, ap, ◌∙◌}
use Rattle.std.specs.Prelude.{◌==◌, codes}
use Rattle.std.proofs.lemmas.List.{map-append, take_more}
use Rattle.serde_json.specs.Data.{Data, Items, item, Members, array, object, put}
use Rattle.serde_json.specs.View as view
use Rattle.objects.specs.Tree.{data_of, items_of, members_of}
use Rattle.objects.specs.DeclaredTree.{Tree}
use Rattle.set_views.specs.Set.{SetParts}
use Rattle.manifests.specs.Arrays.{list_of}
use Rattle.manifests.specs.BuiltClaim.{labels_if_any, owners_if_any}
use Rattle.manifests.specs.Volumes.{volumes_with, with_others}

pub listed_trees : (ts : List Tree) → list_of (items_of ts) ≡ map data_of ts
listed_trees [] = refl
listed_trees (t ∷ ts) = ap (λ ds. data_of t ∷ ds) (listed_trees ts)

pub items_of_trees : (ts : List Tree) → items_of ts ≡ view.items_of (map data_of ts)
items_of_trees [] = refl
items_of_trees (t ∷ ts) = ap (item (data_of t)) (items_of_trees ts)

pub listed_items : (ds : List Data) → list_of (view.items_of ds) ≡ ds
listed_items [] = refl
listed_items (d ∷ ds) = ap (λ l. d ∷ l) (listed_items ds)

pub owners_stand : (ts : List Tree) (ds : Items) → items_of ts ≡ ds → (length ts == 0) ≡ false → Some (array ds) ≡ owners_if_any ds
owners_stand [] ds is some = absurd cc
owners_stand (t ∷ ts) ds is some = sym (ap (λ d. Some (array d)) is) ∙ ap owners_if_any is

pub labels_stand : (es : List (List ℕ × Tree)) (ms : Members) → members_of es ≡ ms → (length es == 0) ≡ false → Some (object ms) ≡ labels_if_any ms
labels_stand [] ms is some = absurd cc
labels_stand (e ∷ es) ms is some = sym (ap (λ m. Some (object m)) is) ∙ ap labels_if_any is

-- one more item, as what it came from
pub mapped_more : {A B C : Type 0} (f : A → C) (g : B → C) (done after : List A) (x : A) (ys : List B) (i : ℕ) (y : B) → i < length ys → y ≡ get_or ys i y
    → map f done ≡ map g (take i ys) → after ≡ done ++ x ∷ [] → f x ≡ g y → map f after ≡ map g (take (i + 1) ys)
mapped_more f g done after x ys i y inside is so_far after_is here =
    ap (map f) after_is ∙ (map-append f done (x ∷ []) ∙ (ap (λ l. l ++ f x ∷ []) so_far ∙ (ap (λ z. map g (take i ys) ++ z ∷ []) here
    ∙ sym (ap (map g) (take_more ys i y inside ∙ ap (λ v. take i ys ++ v ∷ []) (sym is)) ∙ map-append g (take i ys) (y ∷ [])))))

-- the volumes of a pod, put into its spec
pub volumes_put : (set : SetParts) (i : ℕ) (spec : Members) (volumes : List Tree) (others : List Data) → map data_of volumes ≡ volumes_with set i others → (length set.claims == 0) ≡ false
    → put (codes "volumes") (array (items_of volumes)) spec ≡ with_others set i others spec
volumes_put set i spec volumes others volumes_are some =
    ap (λ ds. put (codes "volumes") (array ds) spec) (items_of_trees volumes ∙ ap view.items_of volumes_are)
    ∙ sym (ap (λ b. cond b spec (put (codes "volumes") (array (view.items_of (volumes_with set i others))) spec)) some)

-- those that pass, of the trees of these items
pub passing : (p : Data → Bool) (given : List Tree) (ds : Items) (passed : List Data) → items_of given ≡ ds → passed ≡ filter p (map data_of given) → passed ≡ filter p (list_of ds)
passing p given ds passed given_is passed_is = passed_is ∙ ap (filter p) (sym (listed_trees given) ∙ ap list_of given_is)

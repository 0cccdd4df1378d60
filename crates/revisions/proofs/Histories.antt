-- The history of a set's revisions, one pod and one revision after another.
use Rattle.std.proofs.Common.{◌≡◌, ℕ, suc, ◌+◌, ◌-◌, ◌<◌, List, [], ◌∷◌, ◌++◌, length, take, drop, get_or, Bool, true, false, not, cond, filter, map, Option, Some, Bor, refl, sym, ap, ◌∙◌, append_assoc, add-one}
use Rattle.std.specs.Prelude.{◌&&◌, ◌||◌, bytes_eq, option_map}
use Rattle.std.specs.BTreeSet.{insert_key}
use Rattle.std.specs.List.{list_any}
use Rattle.std.specs.Option.{option_map_or}
use Rattle.std.proofs.Math.Seq.{drop-cons}
use Rattle.std.proofs.lemmas.List.{map-append, take_more, take-map, length-map}
use Rattle.std.proofs.lemmas.List.Folds.{list_any-append}
use Rattle.objects.specs.declared.object.Object.{Object}
use Rattle.set_views.specs.declared.pod.PodView.{PodView}
use Rattle.set_views.specs.Pod.{PodParts, pod_parts}
use Rattle.set_views.specs.Set.{SetParts}
use Rattle.set_views.proofs.NameSets.{by_bytes, has_name-insert_key}
use Rattle.revisions.specs.declared.view.RevisionView.{RevisionView}
use Rattle.revisions.specs.History.{expired_revisions, history, is_live}
use Rattle.revisions.specs.Listing.{has_name}
use Rattle.revisions.specs.Plan.{objects_of}

pub name_put : (owned : Bool) (found : Option (Bor (List ℕ))) (k : Bor (List ℕ)) (q : List ℕ) (before after : List (Bor (List ℕ))) → owned ≡ true → found ≡ Some k → after ≡ insert_key by_bytes before k
    → has_name q after ≡ ((owned && option_map_or (bytes_eq q) (option_map (λ s. s.now) found) false) || has_name q before)
name_put owned found k q before after owned_is found_is after_is = rw (owned_is, found_is) (ap (has_name q) after_is ∙ has_name-insert_key q k before)

or_false : (b : Bool) → (b || false) ≡ b
or_false true = refl
or_false false = refl

-- two names are put into an empty set
pub two_names : (q : List ℕ) (k l : Bor (List ℕ)) (none one two : List (Bor (List ℕ))) → none ≡ [] → one ≡ insert_key by_bytes none k → two ≡ insert_key by_bytes one l
    → has_name q two ≡ (bytes_eq q l.now || bytes_eq q k.now)
two_names q k l none one two none_is one_is two_is =
    ap (has_name q) two_is ∙ (has_name-insert_key q l one ∙ ap (λ b. bytes_eq q l.now || b)
    (ap (has_name q) one_is ∙ (has_name-insert_key q k none ∙ (ap (λ names. bytes_eq q k.now || has_name q names) none_is ∙ or_false (bytes_eq q k.now)))))

any_last : (p any rest : Bool) → (p || (any || rest)) ≡ ((any || (p || false)) || rest)
any_last true true rest = refl
any_last true false rest = refl
any_last false true rest = refl
any_last false false rest = refl

-- one more pod
pub any_more : (test : PodParts → Bool) (pods : List PodView) (i : ℕ) (pod : PodView) (rest : Bool) → i < length pods → pod ≡ get_or pods i pod
    → (test (pod_parts pod) || (list_any test (map pod_parts (take i pods)) || rest)) ≡ (list_any test (map pod_parts (take (i + 1) pods)) || rest)
any_more test pods i pod rest inside is =
    any_last (test (pod_parts pod)) (list_any test (map pod_parts (take i pods))) rest
    ∙ sym (ap (λ l. list_any test (map pod_parts l) || rest) (take_more pods i pod inside ∙ ap (λ v. take i pods ++ v ∷ []) (sym is))
    ∙ ap (λ b. b || rest) (ap (list_any test) (map-append pod_parts (take i pods) (pod ∷ [])) ∙ list_any-append test (map pod_parts (take i pods)) (pod_parts pod ∷ [])))

rest_from : (rs : List RevisionView) (i : ℕ) (r : RevisionView) → i < length rs → r ≡ get_or rs i r → drop i rs ≡ r ∷ drop (i + 1) rs
rest_from rs i r inside is = drop-cons rs i r inside ∙ (ap (λ v. v ∷ drop (suc i) rs) (sym is) ∙ ap (λ n. r ∷ drop n rs) (sym (add-one i)))

pub others_kept : (p : Object → Bool) (rs done after : List RevisionView) (i : ℕ) (r : RevisionView) → i < length rs → r ≡ get_or rs i r → p r.object.now ≡ true → after ≡ done ++ r ∷ []
    → objects_of done ++ filter p (objects_of (drop i rs)) ≡ objects_of after ++ filter p (objects_of (drop (i + 1) rs))
others_kept p rs done after i r inside is passes after_is =
    let rest = filter p (objects_of (drop (i + 1) rs)) in
    ap (λ l. objects_of done ++ filter p (objects_of l)) (rest_from rs i r inside is)
    ∙ (ap (λ b. objects_of done ++ cond b (r.object.now ∷ rest) rest) passes
    ∙ (sym (append_assoc (objects_of done) (r.object.now ∷ []) rest)
    ∙ ap (λ l. l ++ rest) (sym (ap objects_of after_is ∙ map-append (λ (v : RevisionView). v.object.now) done (r ∷ [])))))

pub others_passed : (p : Object → Bool) (rs done after : List RevisionView) (i : ℕ) (r : RevisionView) → i < length rs → r ≡ get_or rs i r → p r.object.now ≡ false → after ≡ done
    → objects_of done ++ filter p (objects_of (drop i rs)) ≡ objects_of after ++ filter p (objects_of (drop (i + 1) rs))
others_passed p rs done after i r inside is fails after_is =
    let rest = filter p (objects_of (drop (i + 1) rs)) in
    ap (λ l. objects_of done ++ filter p (objects_of l)) (rest_from rs i r inside is)
    ∙ (ap (λ b. objects_of done ++ cond b (r.object.now ∷ rest) rest) fails ∙ ap (λ l. objects_of l ++ rest) (sym after_is))

-- all but the last were visited
pub expired_is : (set : SetParts) (pods : List PodParts) (current update : List ℕ) (names : List (Bor (List ℕ))) (owned others gone : List RevisionView) (n : ℕ)
    → ((q : List ℕ) → has_name q names ≡ is_live set pods current update q) → objects_of others ≡ filter (λ o. not (has_name o.key.name names)) (objects_of owned)
    → gone ≡ take n others → n ≡ length others - set.history_limit → objects_of gone ≡ expired_revisions set pods current update (objects_of owned)
expired_is set pods current update names owned others gone n live others_are gone_is n_is =
    let same : objects_of others ≡ history set pods current update (objects_of owned) =
    others_are ∙ ap (λ p. filter p (objects_of owned)) (λ i o. not (live o.key.name i)) in
    ap objects_of gone_is ∙ (sym (take-map (λ (r : RevisionView). r.object.now) n others)
    ∙ (ap (λ m. take m (objects_of others)) (n_is ∙ ap (λ l. l - set.history_limit) (sym (length-map others (λ (r : RevisionView). r.object.now))))
    ∙ ap (λ os. take (length os - set.history_limit) os) same))

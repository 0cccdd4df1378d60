-- Volumes by their names: which have the name of a claim template, and where they are in a spec.
use Rattle.std.proofs.Common.{◌≡◌, ℕ, ◌+◌, ◌<◌, List, [], ◌∷◌, ◌++◌, length, take, get_or, Bool, true, false, Option, Some, None, Bor, refl, sym, ap, ◌∙◌}
use Rattle.std.specs.Prelude.{◌||◌, bytes_eq, codes, option_and_then, option_map, unwrap_or}
use Rattle.std.specs.BTreeSet.{insert_key}
use Rattle.std.specs.List.{list_any}
use Rattle.std.specs.Option.{option_map_or}
use Rattle.std.proofs.lemmas.List.{map-append, take_more}
use Rattle.std.proofs.lemmas.List.Folds.{list_any-append}
use Rattle.std.proofs.lemmas.Slice.Eq.{bytes_eq-Decides}
use Rattle.serde_json.specs.Data.{Data, string, Members, put, no_items}
use Rattle.serde_json.specs.Find.{as_array, as_str, get}
use Rattle.serde_json.proofs.Views.{get_member-put_other}
use Rattle.objects.specs.Object.{is_text}
use Rattle.objects.specs.Building.{put_some}
use Rattle.set_views.specs.Claims.{Claim, names_of}
use Rattle.set_views.specs.Readiness.{says}
use Rattle.set_views.proofs.NameSets.{by_bytes, has_name-insert_key}
use Rattle.revisions.specs.Listing.{has_name}
use Rattle.manifests.specs.Volumes.{volumes_in}

both : (a b : Bool) → (a ≡ true → b ≡ true) → (b ≡ true → a ≡ true) → a ≡ b
both true b f g = sym (f refl)
both false true f g = g refl
both false false f g = refl

turned : (s t : List ℕ) → bytes_eq s t ≡ bytes_eq t s
turned s t =
    both (bytes_eq s t) (bytes_eq t s) (λ h. (bytes_eq-Decides t s).1 (sym ((bytes_eq-Decides s t).0 h))) (λ h. (bytes_eq-Decides s t).1 (sym ((bytes_eq-Decides t s).0 h)))

is_text-as_str : (word : List ℕ) (found : Option Data) → option_map_or (is_text word) found false ≡ option_map_or (bytes_eq word) (option_and_then as_str found) false
is_text-as_str word None = refl
is_text-as_str word (Some d) = refl

-- the name of a volume is that of a template, if the volume has that name
pub named_among : (d : Data) (name : List ℕ) (claims : List Claim) → option_and_then as_str (get (codes "name") d) ≡ Some name
    → list_any (bytes_eq name) (names_of claims) ≡ list_any (λ c. says (codes "name") c.0 d) claims
named_among d name [] is = refl
named_among d name (c ∷ claims) is =
    ap (λ b. b || list_any (bytes_eq name) (names_of claims))
    (turned name c.0 ∙ sym (is_text-as_str c.0 (get (codes "name") d) ∙ ap (λ found. option_map_or (bytes_eq c.0) found false) is))
    ∙ ap (λ b. says (codes "name") c.0 d || b) (named_among d name claims is)

pub unnamed : (d : Data) (claims : List Claim) → option_and_then as_str (get (codes "name") d) ≡ None → false ≡ list_any (λ c. says (codes "name") c.0 d) claims
unnamed d [] is = refl
unnamed d (c ∷ claims) is =
    unnamed d claims is
    ∙ ap (λ b. b || list_any (λ x. says (codes "name") x.0 d) claims) (sym (is_text-as_str c.0 (get (codes "name") d) ∙ ap (λ found. option_map_or (bytes_eq c.0) found false) is))

any_last : (p any : Bool) → (p || any) ≡ (any || (p || false))
any_last true true = refl
any_last true false = refl
any_last false true = refl
any_last false false = refl

-- one more template
pub name_more : (q : List ℕ) (claims : List Claim) (i : ℕ) (c : Claim) (k : Bor (List ℕ)) (before after : List (Bor (List ℕ))) → i < length claims → c ≡ get_or claims i c → k.now ≡ c.0
    → after ≡ insert_key by_bytes before k → has_name q before ≡ list_any (bytes_eq q) (names_of (take i claims)) → has_name q after ≡ list_any (bytes_eq q) (names_of (take (i + 1) claims))
name_more q claims i c k before after inside is name after_is so_far =
    ap (has_name q) after_is ∙ has_name-insert_key q k before ∙ ap (λ s. bytes_eq q s || has_name q before) name ∙ ap (λ b. bytes_eq q c.0 || b) so_far
    ∙ any_last (bytes_eq q c.0) (list_any (bytes_eq q) (names_of (take i claims)))
    ∙ sym (ap (λ l. list_any (bytes_eq q) (names_of l)) (take_more claims i c inside ∙ ap (λ v. take i claims ++ v ∷ []) (sym is))
    ∙ (ap (list_any (bytes_eq q)) (map-append (λ (x : Claim). x.0) (take i claims) (c ∷ [])) ∙ list_any-append (bytes_eq q) (names_of (take i claims)) (c.0 ∷ [])))

-- the volumes of a spec are those that it has without a pod's network identity
pub volumes_apart : (name : List ℕ) (service : Option (List ℕ)) (spec : Members)
    → volumes_in (put_some (codes "subdomain") (option_map string service) (put (codes "hostname") (string name) spec)) ≡ volumes_in spec
volumes_apart name None spec =
    ap (λ found. unwrap_or (option_and_then as_array found) no_items) (get_member-put_other (codes "volumes") (codes "hostname") (string name) spec (λ same. absurd cc))
volumes_apart name (Some s) spec =
    ap (λ found. unwrap_or (option_and_then as_array found) no_items)
    (get_member-put_other (codes "volumes") (codes "subdomain") (string s) (put (codes "hostname") (string name) spec) (λ same. absurd cc)
    ∙ get_member-put_other (codes "volumes") (codes "hostname") (string name) spec (λ same. absurd cc))

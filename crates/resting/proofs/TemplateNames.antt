-- No two claim templates of a set that is read have one name.
use Rattle.std.proofs.Common.{◌≡◌, true, false, if◌then◌else◌, List, [], Option, Some, None, refl, subst}
use Rattle.std.proofs.lemmas.Option.{same_Some}
use Rattle.serde_json.specs.Data.{Data, Items}
use Rattle.serde_json.specs.Find.{as_array}
use Rattle.set_views.specs.Claims.{Claim, are_distinct, claims_in, claims_of, names_of}
use Rattle.set_views.specs.Values.{◌>>=◌}

abbrev AreDistinct : List Claim → Type 0
AreDistinct claims = are_distinct (names_of claims) ≡ true

unless_distinct : (made claims : List Claim) → (if are_distinct (names_of made) then Some made else None) ≡ Some claims → AreDistinct claims
unless_distinct made claims is =
    elim (are_distinct (names_of made)) as (λ b. are_distinct (names_of made) ≡ b → (if b then Some made else None) ≡ Some claims → AreDistinct claims) [
      | true ↦ λ e h. subst AreDistinct (same_Some made claims h) e
      | false ↦ λ e h. absurd (cc)
    ] refl is

of_items : (items : Items) (claims : List Claim) → (claims_of items >>= λ made. if are_distinct (names_of made) then Some made else None) ≡ Some claims → AreDistinct claims
of_items items claims is =
    elim (claims_of items) as (λ found. (found >>= λ made. if are_distinct (names_of made) then Some made else None) ≡ Some claims → AreDistinct claims) [
      | None ↦ λ h. absurd (cc)
      | Some made ↦ λ h. unless_distinct made claims h
    ] is

pub claims_differ : (found : Option Data) (claims : List Claim) → claims_in found ≡ Some claims → AreDistinct claims
claims_differ None claims is = subst AreDistinct (same_Some [] claims is) refl
claims_differ (Some d) claims is =
    elim (as_array d) as (λ items. (items >>= λ x. claims_of x >>= λ made. if are_distinct (names_of made) then Some made else None) ≡ Some claims → AreDistinct claims) [
      | None ↦ λ h. absurd (cc)
      | Some items ↦ λ h. of_items items claims h
    ] is

-- The names of claim templates that were read are DNS labels.
use Rattle.std.proofs.Common.{◌≡◌, List, [], ◌∷◌, Bool, true, false, cond, Option, Some, None, Ok, refl, sym, ap, ◌∙◌}
use Rattle.std.specs.Prelude.{codes, option_and_then}
use Rattle.serde_json.specs.Data.{Data, Items, no_items, item}
use Rattle.serde_json.specs.Find.{as_array, as_object}
use Rattle.objects.specs.Metadata.{text_at}
use Rattle.objects.specs.Names.{is_dns_label}
use Rattle.objects.specs.Object.{object_at}
use Rattle.set_views.specs.declared.fault.PlanError.TheVariants.{BadSpec}
use Rattle.set_views.specs.Claims.{Claim, are_distinct, are_labelled, claim_of, claims_in, claims_of, names_of}
use Rattle.set_views.specs.Steps.{required}

step_before : {A B : Type 0} (o : Option A) (f : A → Option B) (y : B) → option_and_then f o ≡ Some y → (x : A) × ((o ≡ Some x) × (f x ≡ Some y))
step_before None f y h = absurd cc
step_before (Some x) f y h = (x, (refl, h))

kept_if : {A : Type 0} (b : Bool) (x y : A) → cond b (Some x) None ≡ Some y → (b ≡ true) × (x ≡ y)
kept_if true x y h = (refl, cc)
kept_if false x y h = absurd cc

label_read : (d : Data) (c : Claim) → claim_of d ≡ Some c → is_dns_label c.0 ≡ true
label_read d c h =
    let template = step_before (as_object d) _ c h in
    let metadata = step_before (object_at (codes "metadata") template.0) _ c template.1.1 in
    let name = step_before (text_at (codes "name") metadata.0) _ c metadata.1.1 in
    let kept = kept_if (is_dns_label name.0) (name.0, template.0) c name.1.1 in
    sym (ap (λ (x : Claim). is_dns_label x.0) kept.1) ∙ kept.0

labels_read : (ds : Items) (cs : List Claim) → claims_of ds ≡ Some cs → are_labelled cs ≡ true
labels_read no_items [] h = refl
labels_read no_items (c ∷ cs) h = absurd cc
labels_read (item d ds) cs h =
    let first = step_before (claim_of d) _ cs h in
    let rest = step_before (claims_of ds) _ cs first.1.1 in
    let both : first.0 ∷ rest.0 ≡ cs = cc in
    let labelled : are_labelled (first.0 ∷ rest.0) ≡ true = rw (label_read d first.0 first.1.0) (labels_read ds rest.0 rest.1.0) in
    sym (ap are_labelled both) ∙ labelled

labels_in : (found : Option Data) (cs : List Claim) → claims_in found ≡ Some cs → are_labelled cs ≡ true
labels_in None [] h = refl
labels_in None (c ∷ cs) h = absurd cc
labels_in (Some d) cs h =
    let items = step_before (as_array d) _ cs h in
    let claims = step_before (claims_of items.0) _ cs items.1.1 in
    let kept = kept_if (are_distinct (names_of claims.0)) claims.0 cs claims.1.1 in
    sym (ap are_labelled kept.1) ∙ labels_read items.0 claims.0 claims.1.0

was_there : {A : Type 0} (o : Option A) (x : A) → required BadSpec o ≡ Ok x → o ≡ Some x
was_there None x h = absurd cc
was_there (Some y) x h = cc

-- those of a set
pub labelled_in : (found : Option Data) (cs : List Claim) → required BadSpec (claims_in found) ≡ Ok cs → are_labelled cs ≡ true
labelled_in found cs h = labels_in found cs (was_there (claims_in found) cs h)

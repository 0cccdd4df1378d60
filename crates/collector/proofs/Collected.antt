-- The deletes of a list of claims, claim by claim.
use Rattle.std.proofs.Common.{◌≡◌, inl, inr, ℕ, ◌+◌, ◌<◌, Bool, true, false, List, [], ◌∷◌, ◌++◌, length, drop, get_or, filter, map, refl, sym, ◌∙◌, ap, subst, cond, append_assoc}
use Rattle.std.proofs.lemmas.List.{at_drop_more}
use Rattle.objects.specs.declared.object.Object.{Object}
use Rattle.requests.specs.declared.request.Request.{Request}
use Rattle.requests.specs.Lists.{Has}
use Rattle.collector.specs.Collectable.{is_collectable, is_listed, deletion, collection}

pub collection-first : (claim : Object) (rest : List Object) (owners : List (List Object)) (at : ℕ) (b : Bool) → b ≡ is_collectable at (is_listed owners) claim
    → collection (claim ∷ rest) owners at ≡ cond b (deletion claim ∷ collection rest owners at) (collection rest owners at)
collection-first claim rest owners at true e =
    ap (λ b. map deletion (cond b (claim ∷ filter (is_collectable at (is_listed owners)) rest) (filter (is_collectable at (is_listed owners)) rest))) (sym e)
collection-first claim rest owners at false e =
    ap (λ b. map deletion (cond b (claim ∷ filter (is_collectable at (is_listed owners)) rest) (filter (is_collectable at (is_listed owners)) rest))) (sym e)

pub collection-next : (claims : List Object) (i : ℕ) (claim : Object) (owners : List (List Object)) (at : ℕ) (b : Bool) → i < length claims → claim ≡ get_or claims i claim
    → b ≡ is_collectable at (is_listed owners) claim
    → collection (drop i claims) owners at ≡ cond b (deletion claim ∷ collection (drop (i + 1) claims) owners at) (collection (drop (i + 1) claims) owners at)
collection-next claims i claim owners at b lt is e =
    at_drop_more (λ cs. collection cs owners at) claims i claim lt
    ∙ (ap (λ c. collection (c ∷ drop (i + 1) claims) owners at) (sym is) ∙ collection-first claim (drop (i + 1) claims) owners at b e)

pub put-next : (put whole rest later : List Request) (request : Request) → put ++ rest ≡ whole → rest ≡ request ∷ later → (put ++ request ∷ []) ++ later ≡ whole
put-next put whole rest later request e r = append_assoc put (request ∷ []) later ∙ (ap (λ t. put ++ t) (sym r) ∙ e)

later : (claim : Object) (rest : List Object) (owners : List (List Object)) (at : ℕ) (request : Request)
    → ((found : Object) × (Has found rest × ((is_collectable at (is_listed owners) found ≡ true) × (request ≡ deletion found))))
    → (found : Object) × (Has found (claim ∷ rest) × ((is_collectable at (is_listed owners) found ≡ true) × (request ≡ deletion found)))
later claim rest owners at request (found, (among, is)) = (found, (inr among, is))

first : (claim : Object) (rest : List Object) (owners : List (List Object)) (at : ℕ) (request : Request) (b : Bool) → is_collectable at (is_listed owners) claim ≡ b
    → (Has request (collection rest owners at) → (found : Object) × (Has found rest × ((is_collectable at (is_listed owners) found ≡ true) × (request ≡ deletion found))))
    → Has request (cond b (deletion claim ∷ collection rest owners at) (collection rest owners at))
    → (found : Object) × (Has found (claim ∷ rest) × ((is_collectable at (is_listed owners) found ≡ true) × (request ≡ deletion found)))
first claim rest owners at request true e go (inl is) = (claim, (inl refl, (e, is)))
first claim rest owners at request true e go (inr h) = later claim rest owners at request (go h)
first claim rest owners at request false e go h = later claim rest owners at request (go h)

-- the claim of a request that is collected
pub claim_of : (claims : List Object) (owners : List (List Object)) (at : ℕ) (request : Request) → Has request (collection claims owners at)
    → (claim : Object) × (Has claim claims × ((is_collectable at (is_listed owners) claim ≡ true) × (request ≡ deletion claim)))
claim_of [] owners at request h = elim h [ ]
claim_of (claim ∷ rest) owners at request h =
    let b = is_collectable at (is_listed owners) claim in
    first claim rest owners at request b refl (claim_of rest owners at request) (subst (Has request) (collection-first claim rest owners at b refl) h)

-- A walk over a list of pods, one after another.
use Rattle.std.proofs.Common.{◌≡◌, ℕ, suc, ◌+◌, ◌<◌, List, ◌∷◌, ◌++◌, length, get_or, drop, sym, ap, ◌∙◌, append_assoc, add-one, drop-cons}
use Rattle.std.specs.List.{flat_map}
use Rattle.objects.specs.declared.object.Object.{Object}
use Rattle.requests.specs.declared.request.Request.{Request}

at_drop : {A : Type 0} (xs : List A) (at : ℕ) (x : A) → at < length xs → x ≡ get_or xs at x → drop at xs ≡ x ∷ drop (at + 1) xs
at_drop xs at x inside is = rw add-one (drop-cons xs at x inside ∙ ap (λ y. y ∷ drop (suc at) xs) (sym is))

-- the requests so far and those still to come make the whole
pub asked-next : (asks : Object → List Request) (pods : List Object) (at : ℕ) (o : Object) (old new all : List Request) → at < length pods → o ≡ get_or pods at o
    → old ++ flat_map asks (drop at pods) ≡ all → new ≡ old ++ asks o → new ++ flat_map asks (drop (at + 1) pods) ≡ all
asked-next asks pods at o old new all inside is so_far asked =
    ap (λ t. t ++ flat_map asks (drop (at + 1) pods)) asked ∙ append_assoc old (asks o) (flat_map asks (drop (at + 1) pods))
    ∙ ap (λ ps. old ++ flat_map asks ps) (sym (at_drop pods at o inside is)) ∙ so_far

-- What is at the places of a trace, and in lists of places.
use Rattle.std.proofs.Common.{◌≡◌, inl, inr, ℕ, List, [], ◌∷◌, sym, ap, ◌∙◌, arith, zip}
use Rattle.requests.specs.declared.reply.Reply.{Reply}
use Rattle.interleavings.specs.declared.trace.Item.{Item}
use Rattle.interleavings.specs.Linearization.{AreRising, Before, Has, place_of}

-- a place has one item
pub one_item : (items : List Item) (i j : Item) → AreRising items → Has i items → Has j items → place_of i ≡ place_of j → i ≡ j
one_item [] i j rising at there e = absurd at
one_item (x ∷ items) i j rising (inl e) (inl f) is = e ∙ sym f
one_item (x ∷ items) i j rising (inl e) (inr there) is = let low = rising.0 j there in let here : place_of i ≡ place_of x = ap place_of e in absurd (omega (arith, low, here, is))
one_item (x ∷ items) i j rising (inr at) (inl f) is = let low = rising.0 i at in let here : place_of j ≡ place_of x = ap place_of f in absurd (omega (arith, low, here, is))
one_item (x ∷ items) i j rising (inr at) (inr there) is = one_item items i j rising.1 at there is

pub before_has : (p q : ℕ) (ps : List ℕ) → Before p q ps → Has q ps
before_has p q [] h = absurd h
before_has p q (x ∷ ps) (inl h) = inr h.1
before_has p q (x ∷ ps) (inr h) = inr (before_has p q ps h)

-- a place with a reply is among the places
pub zip_has : (p : ℕ) (x : Reply) (ps : List ℕ) (xs : List Reply) → Has (p, x) (zip ps xs) → Has p ps
zip_has p x [] xs h = absurd h
zip_has p x (q ∷ ps) [] h = absurd h
zip_has p x (q ∷ ps) (y ∷ xs) (inl e) = inl (ap (λ (z : ℕ × Reply). z.0) e)
zip_has p x (q ∷ ps) (y ∷ xs) (inr h) = inr (zip_has p x ps xs h)

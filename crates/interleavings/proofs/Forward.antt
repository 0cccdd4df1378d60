-- From the order of the proofs, last request first, to a legal order.
use Rattle.std.proofs.Common.{◌≡◌, ℕ, ◌<◌, ◌⊎◌, List, [], ◌∷◌, ◌++◌, refl, sym, ap, ◌∙◌, subst, inl, inr, arith, zip}
use Rattle.requests.specs.declared.request.Request.{Request}
use Rattle.requests.specs.declared.reply.Reply.{Reply}
use Rattle.interleavings.specs.declared.trace.Item.{Item}
use Rattle.interleavings.specs.declared.trace.Item.TheVariants as item
use Rattle.plain_store.specs.Store.{Store, opening, step}
use Rattle.plain_store.specs.Run.{after, replies}
use Rattle.interleavings.specs.World.{Size}
use Rattle.interleavings.specs.Linearization.{Answers, AreCalled, AreOnce, Before, Has, IsLegal}
use Rattle.interleavings.proofs.Lists.{has_back, has_cases, has_front}
use Rattle.interleavings.proofs.Jobs.{InTime, Job, Once, Tells, places, state_after}
use Rattle.interleavings.proofs.Invariant.{Explains, Fate, Placed}
use Rattle.interleavings.proofs.Orders.{tells_has}

has_place : (js : List Job) (j : Job) → Has j js → Has j.place (places js)
has_place [] j h = h
has_place (x ∷ js) j (inl e) = has_back j.place (places js) (x.place ∷ []) (inl (ap (λ (y : Job). y.place) e))
has_place (x ∷ js) j (inr h) = has_front j.place (places js) (x.place ∷ []) (has_place js j h)

place_has : (js : List Job) (p : ℕ) → Has p (places js) → (j : Job) × (Has j js × (j.place ≡ p))
place_has [] p h = absurd h
place_has (x ∷ js) p h = go (has_cases p (places js) (x.place ∷ []) h) (place_has js p)
  where
    go : Has p (places js) ⊎ ((p ≡ x.place) ⊎ ⊥) → (Has p (places js) → (j : Job) × (Has j js × (j.place ≡ p))) → (j : Job) × (Has j (x ∷ js) × (j.place ≡ p))
    go (inl m) ih = let r = ih m in (r.0, (inr r.1.0, r.1.1))
    go (inr (inl e)) ih = (x, (inl refl, sym e))
    go (inr (inr e)) ih = absurd e

-- the requests, first to last
abbrev requests : List Job → List Request
requests [] = []
requests (j ∷ js) = requests js ++ j.request ∷ []

-- ---- the requests were called
called_last : (trace : List Item) (ps : List ℕ) (rs : List Request) (p c : ℕ) (r : Request) → AreCalled trace ps rs → Has (item.Call p c r) trace → AreCalled trace (ps ++ p ∷ []) (rs ++ r ∷ [])
called_last trace [] [] p c r h m = ((c, m), tt)
called_last trace (x ∷ ps) (y ∷ rs) p c r h m = (h.0, called_last trace ps rs p c r h.1 m)
called_last trace [] (y ∷ rs) p c r h m = absurd h
called_last trace (x ∷ ps) [] p c r h m = absurd h

all_called : (trace : List Item) (js : List Job) → ((j : Job) → Has j js → (c : ℕ) × Has (item.Call j.place c j.request) trace) → AreCalled trace (places js) (requests js)
all_called trace [] h = tt
all_called trace (j ∷ js) h = let c = h j (inl refl) in called_last trace (places js) (requests js) j.place c.0 j.request (all_called trace js (λ d m. h d (inr m))) c.1

-- ---- the plain store's run of them
after_append : (s : Store) (qs rs : List Request) → after s (qs ++ rs) ≡ after (after s qs) rs
after_append s [] rs = refl
after_append s (q ∷ qs) rs = after_append (step s q).0 qs rs

replies_append : (s : Store) (qs rs : List Request) → replies s (qs ++ rs) ≡ replies s qs ++ replies (after s qs) rs
replies_append s [] rs = refl
replies_append s (q ∷ qs) rs = ap (λ l. (step s q).1 ∷ l) (replies_append (step s q).0 qs rs)

after_requests : (z : Size) (js : List Job) → after (opening z.capacity) (requests js) ≡ state_after z js
after_requests z [] = refl
after_requests z (j ∷ js) = after_append (opening z.capacity) (requests js) (j.request ∷ []) ∙ ap (λ s. (step s j.request).0) (after_requests z js)

-- places and replies side by side: equally many
abbrev SameLength : {A B : Type 0} → List A → List B → Type 0
SameLength [] [] = Unit {0}
SameLength (x ∷ xs) (y ∷ ys) = SameLength xs ys
SameLength [] (y ∷ ys) = ⊥
SameLength (x ∷ xs) [] = ⊥

zip_append : (ps : List ℕ) (rs : List Reply) (p : ℕ) (r : Reply) → SameLength ps rs → zip (ps ++ p ∷ []) (rs ++ r ∷ []) ≡ zip ps rs ++ (p, r) ∷ []
zip_append [] [] p r h = refl
zip_append (x ∷ ps) (y ∷ rs) p r h = ap (λ l. (x, y) ∷ l) (zip_append ps rs p r h)
zip_append [] (y ∷ rs) p r h = absurd h
zip_append (x ∷ ps) [] p r h = absurd h

same_append : (ps : List ℕ) (rs : List Reply) (p : ℕ) (r : Reply) → SameLength ps rs → SameLength (ps ++ p ∷ []) (rs ++ r ∷ [])
same_append [] [] p r h = tt
same_append (x ∷ ps) (y ∷ rs) p r h = same_append ps rs p r h
same_append [] (y ∷ rs) p r h = absurd h
same_append (x ∷ ps) [] p r h = absurd h

module _ (z : Size) where
  all_replies : List Job → List Reply
  all_replies js = replies (opening z.capacity) (requests js)

  last_reply : (j : Job) (js : List Job) → all_replies (j ∷ js) ≡ all_replies js ++ (step (state_after z js) j.request).1 ∷ []
  unfolding all_replies
  last_reply j js = replies_append (opening z.capacity) (requests js) (j.request ∷ []) ∙ ap (λ s. all_replies js ++ (step s j.request).1 ∷ []) (after_requests z js)

  same_many : (js : List Job) → SameLength (places js) (all_replies js)
  unfolding all_replies
  same_many [] = tt
  same_many (j ∷ js) = subst (λ l. SameLength (places js ++ j.place ∷ []) l) (sym (last_reply j js)) (same_append (places js) (all_replies js) j.place _ (same_many js))

  told_in : (js : List Job) (p : ℕ) (r : Reply) → Tells z js p r → Has (p, r) (zip (places js) (all_replies js))
  told_in [] p r h = absurd h
  told_in (j ∷ js) p r h = subst (λ l. Has (p, r) l) (sym (ap (zip (places js ++ j.place ∷ [])) (last_reply j js) ∙ zip_append (places js) (all_replies js) j.place x (same_many js))) (go h (told_in js p r))
    where
      x : Reply
      x = (step (state_after z js) j.request).1

      go : ((j.place ≡ p) × (x ≡ r)) ⊎ Tells z js p r → (Tells z js p r → Has (p, r) (zip (places js) (all_replies js))) → Has (p, r) (zip (places js) (all_replies js) ++ (j.place, x) ∷ [])
      go (inl e) ih = has_back (p, r) (zip (places js) (all_replies js)) ((j.place, x) ∷ []) (let both : (p, r) ≡ (j.place, x) = cc (e.0, e.1) in inl both)
      go (inr m) ih = has_front (p, r) (zip (places js) (all_replies js)) ((j.place, x) ∷ []) (ih m)

-- ---- each occurs once
once_append : (ps : List ℕ) (p : ℕ) → AreOnce ps → (Has p ps → ⊥) → AreOnce (ps ++ p ∷ [])
once_append [] p h n = (λ m. m, tt)
once_append (x ∷ ps) p h n = (λ m. go (has_cases x ps (p ∷ []) m), once_append ps p h.1 (λ m. n (inr m)))
  where
    go : Has x ps ⊎ ((x ≡ p) ⊎ ⊥) → ⊥
    go (inl m) = h.0 m
    go (inr (inl e)) = n (inl (sym e))
    go (inr (inr e)) = e

once_places : (js : List Job) → Once js → AreOnce (places js)
once_places [] h = tt
once_places (j ∷ js) h = once_append (places js) j.place (once_places js h.1) (λ m. let d = place_has js j.place m in h.0 d.0 d.1.0 d.1.1)

-- ---- and in time
before_front : (p q : ℕ) (xs ys : List ℕ) → Before p q xs → Before p q (xs ++ ys)
before_front p q [] ys h = absurd h
before_front p q (x ∷ xs) ys (inl h) = inl (h.0, has_front q xs ys h.1)
before_front p q (x ∷ xs) ys (inr h) = inr (before_front p q xs ys h)

before_last : (p q : ℕ) (xs : List ℕ) → Has p xs → Before p q (xs ++ q ∷ [])
before_last p q [] h = absurd h
before_last p q (x ∷ xs) (inl e) = inl (e, has_back q xs (q ∷ []) (inl refl))
before_last p q (x ∷ xs) (inr h) = inr (before_last p q xs h)

before_places : (trace : List Item) (js : List Job) → InTime trace js → (at p q : ℕ) (r : Reply) → Answers trace at p r → at < q → (i j : Job) → Has i js → i.place ≡ p → Has j js → j.place ≡ q → Before p q (places js)
before_places trace [] h at p q r an b i j hi ei hj ej = absurd hi
before_places trace (x ∷ js) h at p q r an b i j hi ei hj ej = go hi hj (before_places trace js h.1 at p q r an b i j)
  where
    go : (i ≡ x) ⊎ Has i js → (j ≡ x) ⊎ Has j js → (Has i js → i.place ≡ p → Has j js → j.place ≡ q → Before p q (places js)) → Before p q (places js ++ x.place ∷ [])
    go (inl e) (inl f) ih = let k : i.place ≡ j.place = ap (λ (y : Job). y.place) (e ∙ sym f) in let a = an.before in absurd (omega arith)
    go (inl e) (inr m) ih =
        let k : x.place ≡ p = ap (λ (y : Job). y.place) (sym e) ∙ ei in
        let l : j.place < at = h.0 j m at r (subst (λ n. Answers trace at n r) (sym k) an) in
        absurd (omega arith)
    go (inr m) (inl f) ih =
        let k : q ≡ x.place = sym ej ∙ ap (λ (y : Job). y.place) f in
        subst (λ n. Before p q (places js ++ n ∷ [])) k (before_last p q (places js) (subst (λ n. Has n (places js)) ei (has_place js i m)))
    go (inr m) (inr n) ih = before_front p q (places js) (x.place ∷ []) (ih m ei n ej)

pub legal : (z : Size) (trace : List Item) (now : ℕ) (o : List Job) (φ : ℕ → Fate) → Explains z trace now o φ → IsLegal z.capacity trace (places o)
unfolding all_replies
legal z trace now o φ g = record {
  answered = λ at p r an. let d = tells_has z o p r (g.answered at p r an) in subst (λ n. Has n (places o)) d.1.1 (has_place o d.0 d.1.0);
  requests = requests o;
  called = all_called trace o (λ j m. (g.known j.place j.request Placed (g.listed j m)).1);
  once = once_places o g.once;
  right = λ at p r an. told_in z o p r (g.answered at p r an);
  in_time = λ at p q r an lt m.
      let i = tells_has z o p r (g.answered at p r an) in
      let j = place_has o q m in
      before_places trace o g.in_time at p q r an lt i.0 j.0 i.1.0 i.1.1 j.1.0 j.1.1;
}

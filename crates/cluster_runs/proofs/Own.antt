-- What some of the callers have in an order: the indices of their calls, with the requests and the plain store's
-- replies.
use Rattle.std.proofs.Common.{◌≡◌, ◌<◌, ◌⊎◌, inl, inr, ℕ, Bool, true, false, cond, List, [], ◌∷◌, Option, Some, None, zip, refl, sym, ap, subst, ◌∙◌, arith}
use Rattle.std.specs.Prelude.{⊤}
use Rattle.requests.specs.declared.request.Request.{Request}
use Rattle.requests.specs.declared.reply.Reply.{Reply}
use Rattle.plain_store.specs.Run.{exchanges, replies}
use Rattle.plain_store.specs.Store.{Store, step}
use Rattle.interleavings.specs.declared.trace.Item.{Item}
use Rattle.interleavings.specs.declared.trace.Item.TheVariants as item
use Rattle.interleavings.specs.Linearization.{AreCalled, AreOnce, AreRising, Before, Has}
use Rattle.interleavings.proofs.Basics.{Compared, same, other, compare, Least, atmost, above, least}
use Rattle.interleavings.proofs.Places.{before_has, one_item}
use Rattle.rounds.specs.Transcript.{Exchange, Incarnation, exchanges_of, is_by, of_incarnation, requests_of}
use Rattle.cluster_runs.specs.Ordered.{called_at, entries_of, then_entries}
use Rattle.cluster_runs.proofs.Items.{called_has, called_there}

-- the index, the request and the reply
abbrev pub Placed : Type 0
Placed = ℕ × Exchange

abbrev pub exchanges_in : List Placed → List Exchange
exchanges_in [] = []
exchanges_in (x ∷ xs) = x.1 ∷ exchanges_in xs

abbrev pub AreUpward : List Placed → Type 0
AreUpward [] = ⊤
AreUpward (x ∷ xs) = ((y : Placed) → Has y xs → x.0 < y.0) × AreUpward xs

-- ---- what the store handles in the order is a run

pub entries_run : (incarnations : ℕ → Option Incarnation) (items : List Item) (s : Store) (ps : List ℕ)
    → exchanges_of (entries_of incarnations items s ps) ≡ exchanges s (requests_of (entries_of incarnations items s ps))
entries_run incarnations items s [] = refl
entries_run incarnations items s (p ∷ ps) = go (called_at items p) (λ t. entries_run incarnations items t ps)
  where
    go : (call : Option (ℕ × Request))
        → ((t : Store) → exchanges_of (entries_of incarnations items t ps) ≡ exchanges t (requests_of (entries_of incarnations items t ps)))
        → exchanges_of (then_entries incarnations s call (λ t. entries_of incarnations items t ps)) ≡ exchanges s (requests_of (then_entries incarnations s call (λ t. entries_of incarnations items t ps)))
    go None rest = rest s
    go (Some call) rest = ap (λ l. (call.1, (step s call.1).1) ∷ l) (rest (step s call.1).0)

module _ (mine : ℕ → Bool) (items : List Item) where
  -- ---- the list
  abbrev then_own : Store → ℕ → Option (ℕ × Request) → (Store → List Placed) → List Placed
  then_own s p None rest = rest s
  then_own s p (Some call) rest = cond (mine call.0) ((p, (call.1, (step s call.1).1)) ∷ rest (step s call.1).0) (rest (step s call.1).0)

  abbrev pub own : Store → List ℕ → List Placed
  own s [] = []
  own s (p ∷ ps) = then_own s p (called_at items p) (λ t. own t ps)

  -- ---- each was called
  pub record IsOwn (ps : List ℕ) (x : Placed) : Type 0 where
    pub caller : ℕ
    pub is_mine : mine caller ≡ true
    pub called : Has (item.Call x.0 caller x.1.0) items
    pub placed : Has x.0 ps

  own_later : (p : ℕ) (ps : List ℕ) (x : Placed) → IsOwn ps x → IsOwn (p ∷ ps) x
  own_later p ps x h = record { caller = h.caller; is_mine = h.is_mine; called = h.called; placed = inr h.placed }

  pub own_called : (s : Store) (ps : List ℕ) (x : Placed) → Has x (own s ps) → IsOwn ps x
  own_called s [] x at = absurd at
  own_called s (p ∷ ps) x at = go (called_at items p) refl (λ t. own_called t ps x) at
    where
      first : (call : ℕ × Request) (b : Bool) → mine call.0 ≡ b → called_at items p ≡ Some call → (Has x (own (step s call.1).0 ps) → IsOwn ps x)
          → Has x (cond b ((p, (call.1, (step s call.1).1)) ∷ own (step s call.1).0 ps) (own (step s call.1).0 ps)) → IsOwn (p ∷ ps) x
      first call true is found rest (inl e) = record {
        caller = call.0;
        is_mine = is;
        called = subst (λ (y : Placed). Has (item.Call y.0 call.0 y.1.0) items) (sym e) (called_has items p call found);
        placed = inl (ap (λ (y : Placed). y.0) e);
      }
      first call true is found rest (inr h) = own_later p ps x (rest h)
      first call false is found rest h = own_later p ps x (rest h)

      go : (call : Option (ℕ × Request)) → called_at items p ≡ call → ((t : Store) → Has x (own t ps) → IsOwn ps x) → Has x (then_own s p call (λ t. own t ps)) → IsOwn (p ∷ ps) x
      go None found rest h = own_later p ps x (rest s h)
      go (Some call) found rest h = first call (mine call.0) refl found (rest (step s call.1).0) h

  -- ---- what the order's store replies is in the list
  has_if : (b : Bool) (x y : Placed) (xs : List Placed) → Has x xs → Has x (cond b (y ∷ xs) xs)
  has_if true x y xs at = inr at
  has_if false x y xs at = at

  pub own_has : (s : Store) (ps : List ℕ) (rs : List Request) (p n : ℕ) (r : Request) (a : Reply) → AreRising items → AreCalled items ps rs
      → Has (item.Call p n r) items → mine n ≡ true → Has (p, a) (zip ps (replies s rs)) → Has (p, (r, a)) (own s ps)
  own_has s [] [] p n r a rising called at is there = absurd there
  own_has s [] (q ∷ rs) p n r a rising called at is there = absurd called
  own_has s (x ∷ ps) [] p n r a rising called at is there = absurd called
  own_has s (x ∷ ps) (q ∷ rs) p n r a rising called at is there =
      subst (λ call. Has (p, (r, a)) (then_own s x call (λ t. own t ps))) (sym (called_there items x called.0.0 q rising called.0.1))
      (go (own (step s q).0 ps) there (own_has (step s q).0 ps rs p n r a rising called.1 at is))
    where
      go : (rest : List Placed) → Has (p, a) (zip (x ∷ ps) (replies s (q ∷ rs)))
          → (Has (p, a) (zip ps (replies (step s q).0 rs)) → Has (p, (r, a)) rest) → Has (p, (r, a)) (cond (mine called.0.0) ((x, (q, (step s q).1)) ∷ rest) rest)
      go rest (inl e) later =
          let place : p ≡ x = ap (λ (y : ℕ × Reply). y.0) e in
          let reply : a ≡ (step s q).1 = ap (λ (y : ℕ × Reply). y.1) e in
          let one : item.Call p n r ≡ item.Call x called.0.0 q = one_item items (item.Call p n r) (item.Call x called.0.0 q) rising at called.0.1 place in
          let caller : n ≡ called.0.0 = cc in
          let request : r ≡ q = cc in
          let first : Placed = (p, (r, a)) in
          let second : Placed = (x, (q, (step s q).1)) in
          let entry : first ≡ second = cc in
          subst (λ b. Has (p, (r, a)) (cond b ((x, (q, (step s q).1)) ∷ rest) rest)) (sym (ap mine (sym caller) ∙ is)) (inl entry)
      go rest (inr h) later = has_if (mine called.0.0) (p, (r, a)) (x, (q, (step s q).1)) rest (later h)

  -- ---- and in the order of the calls, if the order keeps that
  abbrev pub AreOrdered : List ℕ → Type 0
  AreOrdered ps = (p q n m : ℕ) (r t : Request) → Has (item.Call p n r) items → Has (item.Call q m t) items → mine n ≡ true → mine m ≡ true → p < q
      → Has p ps → Has q ps → Before p q ps

  ordered_rest : (x : ℕ) (ps : List ℕ) → AreOnce (x ∷ ps) → AreOrdered (x ∷ ps) → AreOrdered ps
  ordered_rest x ps once ordered p q n m r t at there is also lt here later = go (ordered p q n m r t at there is also lt (inr here) (inr later))
    where
      go : ((p ≡ x) × Has q ps) ⊎ Before p q ps → Before p q ps
      go (inl h) = absurd (once.0 (subst (λ y. Has y ps) h.0 here))
      go (inr h) = h

  pub own_upward : (s : Store) (ps : List ℕ) → AreOnce ps → AreOrdered ps → AreUpward (own s ps)
  own_upward s [] once ordered = tt
  own_upward s (p ∷ ps) once ordered = go (called_at items p) refl (λ t. own_upward t ps once.1 (ordered_rest p ps once ordered))
    where
      above_first : (call : ℕ × Request) → mine call.0 ≡ true → called_at items p ≡ Some call → (y : Placed) → IsOwn ps y → p < y.0
      above_first call is found y h = by (compare p y.0) (least p y.0)
        where
          by : Compared p y.0 → Least p y.0 → p < y.0
          by (same e b) le = absurd (once.0 (subst (λ q. Has q ps) (sym e) h.placed))
          by (other ne b) (atmost le c) = omega (arith, ne, le)
          by (other ne b) (above lt c) =
              turned (ordered y.0 p h.caller call.0 y.1.0 call.1 h.called (called_has items p call found) h.is_mine is lt (inr h.placed) (inl refl))
            where
              turned : ((y.0 ≡ p) × Has p ps) ⊎ Before y.0 p ps → p < y.0
              turned (inl k) = absurd (ne (sym k.0))
              turned (inr k) = absurd (once.0 (before_has y.0 p ps k))

      first : (call : ℕ × Request) (b : Bool) → mine call.0 ≡ b → called_at items p ≡ Some call → AreUpward (own (step s call.1).0 ps)
          → AreUpward (cond b ((p, (call.1, (step s call.1).1)) ∷ own (step s call.1).0 ps) (own (step s call.1).0 ps))
      first call true is found rest = (λ y at. above_first call is found y (own_called (step s call.1).0 ps y at), rest)
      first call false is found rest = rest

      go : (call : Option (ℕ × Request)) → called_at items p ≡ call → ((t : Store) → AreUpward (own t ps)) → AreUpward (then_own s p call (λ t. own t ps))
      go None found rest = rest s
      go (Some call) found rest = first call (mine call.0) refl found (rest (step s call.1).0)

-- ---- the exchanges of an incarnation are those of the callers that have it

pub own_incarnation : (incarnation : Incarnation) (incarnations : ℕ → Option Incarnation) (items : List Item) (s : Store) (ps : List ℕ)
    → of_incarnation incarnation (entries_of incarnations items s ps) ≡ exchanges_in (own (λ n. is_by incarnation (incarnations n)) items s ps)
own_incarnation incarnation incarnations items s [] = refl
own_incarnation incarnation incarnations items s (p ∷ ps) = go (called_at items p) (λ t. own_incarnation incarnation incarnations items t ps)
  where
    first : (b : Bool) (x : Placed) (es : List Exchange) (xs : List Placed) → es ≡ exchanges_in xs → cond b (x.1 ∷ es) es ≡ exchanges_in (cond b (x ∷ xs) xs)
    first true x es xs is = ap (λ l. x.1 ∷ l) is
    first false x es xs is = is

    go : (call : Option (ℕ × Request))
        → ((t : Store) → of_incarnation incarnation (entries_of incarnations items t ps) ≡ exchanges_in (own (λ n. is_by incarnation (incarnations n)) items t ps))
        → of_incarnation incarnation (then_entries incarnations s call (λ t. entries_of incarnations items t ps))
        ≡ exchanges_in (then_own (λ n. is_by incarnation (incarnations n)) items s p call (λ t. own (λ n. is_by incarnation (incarnations n)) items t ps))
    go None rest = rest s
    go (Some call) rest = first (is_by incarnation (incarnations call.0)) (p, (call.1, (step s call.1).1)) _ _ (rest (step s call.1).0)

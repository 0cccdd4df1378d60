-- A list of places that can be followed to its end is a legal order, and the other way round.
use Rattle.std.proofs.Common.{◌≡◌, ◌≢◌, ℕ, ◌<◌, ◌≤◌, ◌⊎◌, cond, length, List, [], ◌∷◌, Option, Some, None, refl, sym, ap, ◌∙◌, subst, inl, inr, arith, zip}
use Rattle.std.proofs.lemmas.Cmp.{nat_cmp_total}
use Rattle.std.specs.BTreeMap.{BTreeMap, btree_map_len, get, is_at}
use Rattle.std.specs.Cmp.{tied_itself}
use Rattle.std.specs.List.{slice_get}
use Rattle.std.specs.Map.{lookup}
use Rattle.std.specs.Ordering.{is_eq, nat_cmp}
use Rattle.requests.specs.declared.request.Request.{Request}
use Rattle.requests.specs.declared.reply.Reply.{Reply}
use Rattle.plain_store.specs.Run.{replies}
use Rattle.plain_store.specs.Store.{Store, opening, step}
use Rattle.interleavings.specs.declared.trace.Item.{Item}
use Rattle.interleavings.specs.declared.trace.Item.TheVariants as item
use Rattle.order_check.specs.Following.{AreCallsAt, Follows, IsCalled, IsDue, IsRest, IsAnswered, MayTake, Standing, Takes}
use Rattle.interleavings.specs.Linearization.{Answers, AreCalled, AreOnce, Before, Has, IsLegal}
use Rattle.order_check.specs.Lookup.{Lookup}
use Rattle.order_check.specs.Pairing.{AreFound}
use Rattle.interleavings.proofs.Basics.{Compared, same, other, compare, Least, atmost, above, least}
use Rattle.interleavings.proofs.Lists.{has_at}
use Rattle.interleavings.proofs.Places.{before_has, zip_has}

-- the reply to the call at a place is among the items, and that call is not in the order yet
pub record IsLeft (items : List Item) (s : Standing) (at p : ℕ) (reply : Reply) : Type 0 where
  pub index : ℕ
  pub caller : ℕ
  pub index_is : s.answers p ≡ Some index
  pub is : slice_get items index ≡ Some (item.Reply at caller reply)

-- a map that gives nothing has nothing
pub no_entries : (m : BTreeMap ℕ ℕ) → ((p : ℕ) → get nat_cmp m p ≡ None) → btree_map_len m ≡ 0
no_entries m none = go m.entries none
  where
    go : (es : List (ℕ × ℕ)) → ((p : ℕ) → lookup (is_at (nat_cmp p)) es ≡ None) → length es ≡ 0
    go [] h = refl
    go (e ∷ es) h = let some : Some e.1 ≡ None = sym (ap (λ r. cond (is_eq r) (Some e.1) (lookup (is_at (nat_cmp e.0)) es)) (tied_itself nat_cmp_total e.0)) ∙ h e.0 in cc

module _ (items : List Item) where
  was_called : (m : Option ℕ) (p : ℕ) (r : Request) → IsCalled items m p r → (caller : ℕ) × Has (item.Call p caller r) items
  was_called None p r h = absurd h
  was_called (Some i) p r h = (h.0, has_at items i _ h.1)

  has_index : (m : Option ℕ) (p : ℕ) (r : Request) → IsCalled items m p r → m ≢ None
  has_index None p r h = λ n. h
  has_index (Some i) p r h = λ n. cc

  left_on : (s t : Standing) (q at p : ℕ) (reply : Reply) → Takes items s q t → p ≢ q → IsLeft items s at p reply → IsLeft items t at p reply
  left_on s t q at p reply k ne h = record { index = h.index; caller = h.caller; index_is = k.answers.others p ne ∙ h.index_is; is = h.is }

  -- the store gives that reply, and the latest call came no later
  answer_fits : (s : Standing) (q at p latest : ℕ) (reply recorded : Reply) → IsAnswered items (s.answers q) latest recorded → p ≡ q → IsLeft items s at p reply → (recorded ≡ reply) × (latest ≤ at)
  answer_fits s q at p latest reply recorded k e h = go (subst (λ m. IsAnswered items m latest recorded) (sym (ap s.answers e) ∙ h.index_is) k)
    where
      go : IsAnswered items (Some h.index) latest recorded → (recorded ≡ reply) × (latest ≤ at)
      go w =
          let all : Some (item.Reply w.0 w.1.0 recorded) ≡ Some (item.Reply at h.caller reply) = sym w.1.1.0 ∙ h.is in
          let el : latest ≤ w.0 = w.1.1.1 in
          let ea : w.0 ≡ at = cc in
          let er : recorded ≡ reply = cc in
          (er, omega arith)

  none_left : (s : Standing) (at p : ℕ) (reply : Reply) → ((p : ℕ) → s.answers p ≡ None) → IsLeft items s at p reply → ⊥
  none_left s at p reply none h = let e : None ≡ Some h.index = sym (none p) ∙ h.index_is in cc

  abbrev requests : (s : Standing) (ps : List ℕ) → Follows items s ps → List Request
  requests s [] f = []
  requests s (p ∷ ps) f = f.1.0.may.request ∷ requests f.0 ps f.1.1

  called : (s : Standing) (ps : List ℕ) (f : Follows items s ps) → AreCalled items ps (requests s ps f)
  called s [] f = tt
  called s (p ∷ ps) f = (was_called (s.calls p) p f.1.0.may.request f.1.0.may.called, called f.0 ps f.1.1)

  -- what is in the order was listed
  listed : (s : Standing) (ps : List ℕ) → Follows items s ps → (q : ℕ) → Has q ps → s.calls q ≢ None
  listed s [] f q h = absurd h
  listed s (p ∷ ps) f q (inl e) = λ n. has_index (s.calls p) p f.1.0.may.request f.1.0.may.called (sym (ap s.calls e) ∙ n)
  listed s (p ∷ ps) f q (inr h) = go (compare q p) (listed f.0 ps f.1.1 q h)
    where
      go : Compared q p → f.0.calls q ≢ None → s.calls q ≢ None
      go (same e b) later = absurd (later (ap f.0.calls e ∙ f.1.0.calls.gone))
      go (other ne b) later = λ n. later (f.1.0.calls.others q ne ∙ n)

  once : (s : Standing) (ps : List ℕ) → Follows items s ps → AreOnce ps
  once s [] f = tt
  once s (p ∷ ps) f = (λ h. listed f.0 ps f.1.1 p h f.1.0.calls.gone, once f.0 ps f.1.1)

  answered : (s : Standing) (ps : List ℕ) → Follows items s ps → (at p : ℕ) (reply : Reply) → IsLeft items s at p reply → Has p ps
  answered s [] f at p reply h = absurd (none_left s at p reply f h)
  answered s (q ∷ ps) f at p reply h = go (compare p q) (answered f.0 ps f.1.1 at p reply)
    where
      go : Compared p q → (IsLeft items f.0 at p reply → Has p ps) → (p ≡ q) ⊎ Has p ps
      go (same e b) later = inl e
      go (other ne b) later = inr (later (left_on s f.0 q at p reply f.1.0 ne h))

  right : (s : Standing) (ps : List ℕ) (f : Follows items s ps) (at p : ℕ) (reply : Reply) → IsLeft items s at p reply → Has (p, reply) (zip ps (replies s.store (requests s ps f)))
  right s [] f at p reply h = absurd (none_left s at p reply f h)
  right s (q ∷ ps) f at p reply h = go (compare p q) (right f.0 ps f.1.1 at p reply)
    where
      recorded : Reply
      recorded = (step s.store f.1.0.may.request).1

      Given : ℕ → Reply → Type 0
      Given x r = ◌≡◌ {A = ℕ × Reply} (p, reply) (x, r)

      Later : Store → Type 0
      Later st = Has (p, reply) (zip ps (replies st (requests f.0 ps f.1.1)))

      go : Compared p q → (IsLeft items f.0 at p reply → Later f.0.store) → Given q recorded ⊎ Later (step s.store f.1.0.may.request).0
      go (same e b) later = let k = answer_fits s q at p s.latest reply recorded f.1.0.may.answer_fits e h in inl (subst (λ r. Given q r) (sym k.0) (subst (λ x. Given x reply) e refl))
      go (other ne b) later = inr (subst Later f.1.0.stepped (later (left_on s f.0 q at p reply f.1.0 ne h)))

  -- a reply that is left comes after all calls so far
  after_latest : (s : Standing) (ps : List ℕ) → Follows items s ps → (at p : ℕ) (reply : Reply) → IsLeft items s at p reply → s.latest ≤ at
  after_latest s [] f at p reply h = absurd (none_left s at p reply f h)
  after_latest s (q ∷ ps) f at p reply h = go (compare p q) (after_latest f.0 ps f.1.1 at p reply)
    where
      go : Compared p q → (IsLeft items f.0 at p reply → f.0.latest ≤ at) → s.latest ≤ at
      go (same e b) later = (answer_fits s q at p s.latest reply _ f.1.0.may.answer_fits e h).1
      go (other ne b) later =
          let l : f.0.latest ≤ at = later (left_on s f.0 q at p reply f.1.0 ne h) in
          let grows = f.1.0.grows in
          omega arith

  in_time : (s : Standing) (ps : List ℕ) → Follows items s ps → (at p q : ℕ) (reply : Reply) → p < at → IsLeft items s at p reply → at < q → Has q ps → Before p q ps
  in_time s [] f at p q reply before h lt m = absurd m
  in_time s (x ∷ ps) f at p q reply before h lt m = go (compare p x) m (λ l n. in_time f.0 ps f.1.1 at p q reply before l lt n)
    where
      go : Compared p x → (q ≡ x) ⊎ Has q ps → (IsLeft items f.0 at p reply → Has q ps → Before p q ps) → ((p ≡ x) × Has q ps) ⊎ Before p q ps
      go (same e b) (inl d) later = absurd (omega arith)
      go (same e b) (inr n) later = inl (e, n)
      go (other ne b) (inl d) later =
          let l : f.0.latest ≤ at = after_latest f.0 ps f.1.1 at p reply (left_on s f.0 x at p reply f.1.0 ne h) in
          let reached : x ≤ f.0.latest = f.1.0.reached in
          absurd (omega arith)
      go (other ne b) (inr n) later = inr (later (left_on s f.0 x at p reply f.1.0 ne h) n)

  pub followed : (capacity : ℕ) (s : Standing) (ps : List ℕ) → s.store ≡ opening capacity → AreFound items items s.calls s.answers → Follows items s ps → IsLegal capacity items ps
  followed capacity s ps begun found f = record {
    answered = λ at p reply a. answered s ps f at p reply (left at p reply a);
    requests = requests s ps f;
    called = called s ps f;
    once = once s ps f;
    right = λ at p reply a. subst (λ st. Has (p, reply) (zip ps (replies st (requests s ps f)))) begun (right s ps f at p reply (left at p reply a));
    in_time = λ at p q reply a lt m. in_time s ps f at p q reply a.before (left at p reply a) lt m;
  }
    where
      left : (at p : ℕ) (reply : Reply) → Answers items at p reply → IsLeft items s at p reply
      left at p reply a = let h = found.replied at p reply a in record { index = h.0; caller = h.1.0; index_is = h.1.1.0; is = h.1.1.1 }

  -- ---- the converse
  begun_with : (s : Standing) (ps : List ℕ) (rs : List Request) → AreFound items items s.calls s.answers → AreCalled items ps rs → AreCallsAt items s.calls ps rs
  begun_with s [] [] found a = tt
  begun_with s [] (r ∷ rs) found a = a
  begun_with s (p ∷ ps) [] found a = a
  begun_with s (p ∷ ps) (r ∷ rs) found a =
      let f = found.called p a.0.0 r a.0.1 in
      (subst (λ m. IsCalled items m p r) (sym f.1.0) (a.0.0, f.1.1), begun_with s ps rs found a.1)

  pub rest_of : (capacity : ℕ) (s : Standing) (ps : List ℕ) → s.store ≡ opening capacity → s.latest ≡ 0 → AreFound items items s.calls s.answers → (h : IsLegal capacity items ps) → IsRest items s ps h.requests
  rest_of capacity s ps begun first found h = record {
    called = begun_with s ps h.requests found h.called;
    once = h.once;
    due = λ p i e.
        let x = found.right p i e in
        let zero_below : s.latest ≤ x.at = omega (arith, first) in
        record {
          at = x.at;
          caller = x.caller;
          reply = x.reply;
          is = x.is;
          right = subst (λ st. Has (p, x.reply) (zip ps (replies st h.requests))) (sym begun) (h.right x.at p x.reply x.answers);
          late = zero_below;
          in_time = λ q m lt. h.in_time x.at p q x.reply x.answers lt m;
        };
  }

  -- what was called at a place with an index is one request
  one_request : (m : Option ℕ) (p : ℕ) (q r : Request) → IsCalled items m p q → IsCalled items m p r → q ≡ r
  one_request None p q r h k = absurd h
  one_request (Some i) p q r h k = let all : Some (item.Call p h.0 q) ≡ Some (item.Call p k.0 r) = sym h.1 ∙ k.1 in cc

  -- with nothing left of the order, no reply is due
  pub none_due : (s : Standing) (rs : List Request) → IsRest items s [] rs → (p : ℕ) → s.answers p ≡ None
  none_due s rs h p = go (s.answers p) refl
    where
      go : (m : Option ℕ) → s.answers p ≡ m → s.answers p ≡ None
      go None e = e
      go (Some i) e = absurd (h.due p i e).right

  pub may_take : (s : Standing) (p : ℕ) (ps : List ℕ) (rs : List Request) → IsRest items s (p ∷ ps) rs → MayTake items s p
  may_take s p ps [] h = absurd h.called
  may_take s p ps (r ∷ rs) h = record { request = r; called = h.called.0; answer_fits = answered_at (s.answers p) refl }
    where
      recorded : Reply
      recorded = (step s.store r).1

      is_recorded : (y : Reply) → Has (p, y) (zip (p ∷ ps) (replies s.store (r ∷ rs))) → y ≡ recorded
      is_recorded y (inl e) = ap (λ (x : ℕ × Reply). x.1) e
      is_recorded y (inr m) = absurd (h.once.0 (zip_has p y ps (replies (step s.store r).0 rs) m))

      answered_at : (m : Option ℕ) → s.answers p ≡ m → IsAnswered items m s.latest recorded
      answered_at None e = tt
      answered_at (Some i) e = let d = h.due p i e in (d.at, (d.caller, (d.is ∙ ap (λ y. Some (item.Reply d.at d.caller y)) (is_recorded d.reply d.right), d.late)))

  calls_on : (s t : Lookup) (p : ℕ) (ps : List ℕ) (rs : List Request) → ((q : ℕ) → q ≢ p → t q ≡ s q) → (Has p ps → ⊥) → AreCallsAt items s ps rs → AreCallsAt items t ps rs
  calls_on s t p [] [] others none a = tt
  calls_on s t p [] (r ∷ rs) others none a = a
  calls_on s t p (q ∷ ps) [] others none a = a
  calls_on s t p (q ∷ ps) (r ∷ rs) others none a =
      (subst (λ m. IsCalled items m q r) (sym (others q (λ e. none (inl (sym e))))) a.0, calls_on s t p ps rs others (λ m. none (inr m)) a.1)

  -- what is left once the first place is taken
  pub rest_after : (s t : Standing) (p : ℕ) (ps : List ℕ) (rs : List Request) → IsRest items s (p ∷ ps) rs → Takes items s p t → (later : List Request) × IsRest items t ps later
  rest_after s t p ps [] h k = absurd h.called
  rest_after s t p ps (r ∷ rs) h k = (
    rs,
    record {
      called = calls_on s.calls t.calls p ps rs k.calls.others h.once.0 h.called.1;
      once = h.once.1;
      due = λ q i e. due q i e (compare q p);
    },
  )
    where
      store : (step s.store r).0 ≡ t.store
      store = ap (λ x. (step s.store x).0) (one_request (s.calls p) p r k.may.request h.called.0 k.may.called) ∙ sym k.stepped

      later : (q : ℕ) (y : Reply) → q ≢ p → Has (q, y) (zip (p ∷ ps) (replies s.store (r ∷ rs))) → Has (q, y) (zip ps (replies t.store rs))
      later q y ne (inl e) = absurd (ne (ap (λ (x : ℕ × Reply). x.0) e))
      later q y ne (inr m) = subst (λ st. Has (q, y) (zip ps (replies st rs))) store m

      behind : (q x : ℕ) → q ≢ p → Before q x (p ∷ ps) → Before q x ps
      behind q x ne (inl w) = absurd (ne w.0)
      behind q x ne (inr b) = b

      no_later : (q at : ℕ) → q ≢ p → ((x : ℕ) → Has x (p ∷ ps) → at < x → Before q x (p ∷ ps)) → Least p at → p ≤ at
      no_later q at ne in_time (atmost l b) = l
      no_later q at ne in_time (above l b) = absurd (h.once.0 (before_has q p ps (behind q p ne (in_time p (inl refl) l))))

      due : (q i : ℕ) → t.answers q ≡ Some i → Compared q p → IsDue items t ps rs q i
      due q i e (same d b) = let all : None ≡ Some i = sym (ap t.answers d ∙ k.answers.gone) ∙ e in absurd cc
      due q i e (other ne b) =
          let d = h.due q i (sym (k.answers.others q ne) ∙ e) in
          record {
            at = d.at;
            caller = d.caller;
            reply = d.reply;
            is = d.is;
            right = later q d.reply ne d.right;
            late = k.least d.at d.late (no_later q d.at ne d.in_time (least p d.at));
            in_time = λ x m lt. behind q x ne (d.in_time x (inr m) lt);
          }

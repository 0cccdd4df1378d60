-- The frontier passes a number.
use Rattle.std.proofs.Common.{◌≡◌, ◌≢◌, ℕ, suc, ◌<◌, ◌≤◌, ◌⊎◌, Bool, true, false, cond, List, [], ◌∷◌, ◌++◌, Option, Some, None, refl, sym, ap, ◌∙◌, subst, inl, inr, arith, nat_eq, ne_eqb, eq-eqb, append_assoc, append-nil}
use Rattle.requests.specs.declared.request.Request.{Request}
use Rattle.requests.specs.declared.reply.Reply.{Reply}
use Rattle.interleavings.specs.declared.trace.Item.{Item}
use Rattle.plain_store.specs.Store.{Store, step}
use Rattle.interleavings.specs.Log.{Writing, value}
use Rattle.interleavings.specs.World.{Size, World, changed}
use Rattle.interleavings.specs.Order.{Arrangement, Parked, passed, places_at, rest}
use Rattle.interleavings.specs.Step.{later, raised, accepted_reply}
use Rattle.interleavings.specs.Linearization.{Has}
use Rattle.interleavings.proofs.Basics.{Compared, same, other, compare, changed-other, Least, atmost, above, least}
use Rattle.interleavings.proofs.Plainly.{judge, moves_there, plainly, stays, stays_there}
use Rattle.interleavings.proofs.Jobs.{Job, Tells, places, state_after}
use Rattle.interleavings.proofs.Orders.{aside-placed, emit, fate_other, later_on, queued-placed}
use Rattle.interleavings.proofs.Invariant.{Apart, Aside, AwaitFacts, is_aside, is_queued, Explains, Fate, Ghost, Invariant, Known, Live, ParkedFacts, Placed, Queued, StaysFacts, Status, WaitingFacts, WritingFacts}
use Rattle.interleavings.proofs.Frames.{Frame, frame, idle}
use Rattle.interleavings.proofs.Arranged.{Holds, Shows, backwards, backwards_rest, places_at_append}

rest_keeps : (n : ℕ) (ps : List Parked) (p : Parked) → Has p ps → p.number ≢ n → Has p (rest n ps)
rest_keeps n [] p h ne = absurd h
rest_keeps n (x ∷ ps) p h ne = go h (compare x.number n) (rest_keeps n ps p)
  where
    go : (p ≡ x) ⊎ Has p ps → Compared x.number n → (Has p ps → p.number ≢ n → Has p (rest n ps)) → Has p (cond (nat_eq x.number n) (rest n ps) (x ∷ rest n ps))
    go (inl e) (same k b) ih = absurd (ne (ap (λ (y : Parked). y.number) e ∙ k))
    go (inl e) (other k b) ih = rw b (inl e)
    go (inr m) (same k b) ih = rw b (ih m ne)
    go (inr m) (other k b) ih = rw b (inr (ih m ne))

rest_of : (n : ℕ) (ps : List Parked) (p : Parked) → Has p (rest n ps) → Has p ps × (p.number ≢ n)
rest_of n [] p h = absurd h
rest_of n (x ∷ ps) p h = go (compare x.number n) h (rest_of n ps p)
  where
    at : x.number ≢ n → (p ≡ x) ⊎ Has p (rest n ps) → (Has p (rest n ps) → Has p ps × (p.number ≢ n)) → ((p ≡ x) ⊎ Has p ps) × (p.number ≢ n)
    at ne (inl e) ih = (inl e, λ k. ne (ap (λ (y : Parked). y.number) (sym e) ∙ k))
    at ne (inr m) ih = let r = ih m in (inr r.0, r.1)

    go : Compared x.number n → Has p (cond (nat_eq x.number n) (rest n ps) (x ∷ rest n ps)) → (Has p (rest n ps) → Has p ps × (p.number ≢ n)) → ((p ≡ x) ⊎ Has p ps) × (p.number ≢ n)
    go (same e b) h ih = let r = ih (subst (λ v. Has p (cond v (rest n ps) (x ∷ rest n ps))) b h) in (inr r.0, r.1)
    go (other ne b) h ih = at ne (subst (λ v. Has p (cond v (rest n ps) (x ∷ rest n ps))) b h) ih

rest_apart : (n : ℕ) (ps : List Parked) → Apart ps → Apart (rest n ps)
rest_apart n [] h = tt
rest_apart n (x ∷ ps) h = go (nat_eq x.number n) (rest_apart n ps h.1)
  where
    go : (b : Bool) → Apart (rest n ps) → Apart (cond b (rest n ps) (x ∷ rest n ps))
    go true ih = ih
    go false ih = (λ q m. h.0 q (rest_of n ps q m).0, ih)

apart_same : (ps : List Parked) → Apart ps → (p q : Parked) → Has p ps → Has q ps → q.place ≡ p.place → q ≡ p
apart_same [] h p q a b e = absurd a
apart_same (x ∷ ps) h p q (inl a) (inl b) e = b ∙ sym a
apart_same (x ∷ ps) h p q (inl a) (inr b) e = absurd (h.0 q b (e ∙ ap (λ (y : Parked). y.place) a))
apart_same (x ∷ ps) h p q (inr a) (inl b) e = absurd (h.0 p a (sym e ∙ ap (λ (y : Parked). y.place) b))
apart_same (x ∷ ps) h p q (inr a) (inr b) e = apart_same ps h.1 p q a b e

-- the order with what is parked at a number put at its end
record ArePassed (z : Size) (trace : List Item) (now : ℕ) (s : Store) (n : ℕ) (φ : ℕ → Fate) (o : List Job) (ps : List Parked) : Type 0 where
  jobs : List Job
  fate : ℕ → Fate
  good : Explains z trace now jobs fate
  state : state_after z jobs ≡ s
  same_fate : (x : ℕ) → ((p : Parked) → Has p ps → p.number ≡ n → p.place ≢ x) → fate x ≡ φ x
  tells : (p : ℕ) (r : Reply) → Tells z o p r → Tells z jobs p r
  told_now : (p : Parked) → Has p ps → p.number ≡ n → (q : Request) → φ p.place ≡ Known q Aside → Tells z jobs p.place (step s q).1
  named : places jobs ≡ places o ++ places_at n (backwards ps)

passing : (z : Size) (trace : List Item) (now : ℕ) (s : Store) (n : ℕ) (φ : ℕ → Fate) (o : List Job) → Explains z trace now o φ → state_after z o ≡ s → (ps : List Parked) → Apart ps → ((p : Parked) → Has p ps → p.number ≡ n → (q : Request) × ((φ p.place ≡ Known q Aside) × ((step s q).0 ≡ s))) → ArePassed z trace now s n φ o ps
passing z trace now s n φ o g st [] h k = record {
  jobs = o;
  fate = φ;
  good = g;
  state = st;
  same_fate = λ x h. refl;
  tells = λ p r h. h;
  told_now = λ p m e. absurd m;
  named = sym (append-nil (places o));
}
passing z trace now s n φ o g st (x ∷ ps) h k = go (compare x.number n) (passing z trace now s n φ o g st ps h.1 (λ p m e. k p (inr m) e))
  where
    here : x.number ≡ n → ArePassed z trace now s n φ o ps → ArePassed z trace now s n φ o (x ∷ ps)
    here e r = record {
      jobs = job ∷ r.jobs;
      fate = changed r.fate x.place (Known job.request Placed);
      good = emit z trace now r.jobs r.fate r.good job Aside (r.same_fate x.place (λ p m en. h.0 p m) ∙ kx.1.0) aside-placed;
      state = ap (λ v. (step v job.request).0) r.state ∙ kx.1.1;
      same_fate = λ y no_place. changed-other r.fate x.place (Known job.request Placed) y (λ ey. no_place x (inl refl) e (sym ey)) ∙ r.same_fate y (λ p m en. no_place p (inr m) en);
      tells = λ p v t. inr (r.tells p v t);
      told_now = told_now';
      named = ap (λ l. l ++ x.place ∷ []) r.named ∙ append_assoc (places o) (places_at n (backwards ps)) (x.place ∷ []) ∙ ap (λ l. places o ++ l) (ap (λ b. places_at n (backwards ps) ++ cond b (x.place ∷ []) []) (sym here_so) ∙ sym (places_at_append n (backwards ps) x));
    }
      where
        here_so : nat_eq x.number n ≡ true
        here_so = eq-eqb x.number n e

        kx : (q : Request) × ((φ x.place ≡ Known q Aside) × ((step s q).0 ≡ s))
        kx = k x (inl refl) e

        job : Job
        job = record { place = x.place; request = kx.0 }

        told_now' : (p : Parked) → (p ≡ x) ⊎ Has p ps → p.number ≡ n → (q : Request) → φ p.place ≡ Known q Aside → Tells z (job ∷ r.jobs) p.place (step s q).1
        told_now' p (inl ep) en q eq =
            let all : Known kx.0 Aside ≡ Known q Aside = sym kx.1.0 ∙ ap (λ (y : Parked). φ y.place) (sym ep) ∙ eq in
            let same_request : kx.0 ≡ q = cc in
            inl (ap (λ (y : Parked). y.place) (sym ep), ap (λ v. (step v kx.0).1) r.state ∙ ap (λ v. (step s v).1) same_request)
        told_now' p (inr m) en q eq = inr (r.told_now p m en q eq)

    there : x.number ≢ n → ArePassed z trace now s n φ o ps → ArePassed z trace now s n φ o (x ∷ ps)
    there ne r = record {
      jobs = r.jobs;
      fate = r.fate;
      good = r.good;
      state = r.state;
      same_fate = λ y no_place. r.same_fate y (λ p m en. no_place p (inr m) en);
      tells = r.tells;
      told_now = told_now';
      named = r.named ∙ ap (λ l. places o ++ l) (sym (append-nil (places_at n (backwards ps))) ∙ ap (λ b. places_at n (backwards ps) ++ cond b (x.place ∷ []) []) (sym (ne_eqb x.number n ne)) ∙ sym (places_at_append n (backwards ps) x));
    }
      where
        told_now' : (p : Parked) → (p ≡ x) ⊎ Has p ps → p.number ≡ n → (q : Request) → φ p.place ≡ Known q Aside → Tells z r.jobs p.place (step s q).1
        told_now' p (inl ep) en q eq = absurd (ne (ap (λ (y : Parked). y.number) (sym ep) ∙ en))
        told_now' p (inr m) en q eq = r.told_now p m en q eq

    go : Compared x.number n → ArePassed z trace now s n φ o ps → ArePassed z trace now s n φ o (x ∷ ps)
    go (same e b) r = here e r
    go (other ne b) r = there ne r

module _ (z : Size) (w : World) (g : Ghost) (iv : Invariant z w g) (a : Arrangement) (sh : Shows g a) where
  raise_some : (t : Writing) → w.log w.frontier ≡ Some t → Holds z (later (raised w (Some t))) (passed (suc w.frontier) (Some t) a)
  raise_some t e = (
    g',
    (
      record {
        within = below (least w.drawn w.frontier);
        room = iv.room;
        standing = (let a = iv.standing in omega arith);
        above = iv.above;
        bound = iv.bound;
        state = after_all.state;
        good = later_on z w.trace w.now after_all.jobs after_all.fate after_all.good;
        phases = λ d. frame z w g w' g' d (framed d) (w.phase d) (iv.phases d);
        opens = iv.opens;
        writings = λ i u eu. written i u (iv.writings i u eu);
        asides = parked;
        apart = rest_apart next g.parked iv.apart;
      },
      record { order = after_all.named ∙ append_assoc (places g.jobs) (t.place ∷ []) (places_at next (backwards g.parked)) ∙ ap (λ l. l ++ t.place ∷ places_at next (backwards g.parked)) sh.order ∙ ap (λ ps. a.order ++ t.place ∷ places_at next ps) sh.parked; parked = backwards_rest next g.parked ∙ ap (rest next) sh.parked },
    ),
  )
    where
      next : ℕ
      next = suc w.frontier

      facts : WritingFacts z w g w.frontier t
      facts = iv.writings w.frontier t e

      queued_now : g.fate t.place ≡ Known facts.request (Queued w.frontier)
      queued_now = facts.queued (omega arith)

      first : ℕ → Fate
      first = changed g.fate t.place (Known facts.request Placed)

      job : Job
      job = record { place = t.place; request = facts.request }

      now_store : Store
      now_store = plainly z w.log w.floor next

      -- the write itself
      written_now : step (plainly z w.log w.floor w.frontier) facts.request ≡ (now_store, accepted_reply t.change next)
      written_now = moves_there z w.log w.floor w.frontier t facts.request iv.standing e facts.routed facts.judged

      -- a request that is parked at the number
      stays_now : (s : ℕ) (q : Request) (r : Reply) → s ≡ next → StaysFacts z w.log g.settled s q r → step now_store q ≡ (now_store, r)
      stays_now s q r en st = stays_there z w.log w.floor next st.key q r st.routed (subst (λ n. judge z n (value w.log n st.key) q ≡ stays r) en st.judged)

      after_all : ArePassed z w.trace w.now now_store next first (job ∷ g.jobs) g.parked
      after_all = passing z w.trace w.now now_store next first (job ∷ g.jobs)
          (emit z w.trace w.now g.jobs g.fate iv.good job (Queued w.frontier) queued_now (queued-placed w.frontier))
          (ap (λ s. (step s facts.request).0) iv.state ∙ ap (λ (x : Store × Reply). x.0) written_now)
          g.parked iv.apart
          (λ p m en. let a = iv.asides p m in (a.request, (fate_other g.fate t.place p.place facts.request a.request (Queued w.frontier) Aside _ queued_now a.aside (λ x. cc), ap (λ (x : Store × Reply). x.0) (stays_now p.number a.request a.reply en a.stays))))

      w' : World
      w' = record w { frontier = next; now = suc w.now }

      g' : Ghost
      g' = record g { fate = after_all.fate; jobs = after_all.jobs; parked = rest next g.parked }

      saves : (x : ℕ) (q : Request) (st : Status) → g.fate x ≡ Known q st → st ≢ Aside → st ≢ Queued w.frontier → after_all.fate x ≡ Known q st
      saves x q st ex na nq =
          after_all.same_fate x (λ p m en ep. let all : Known (iv.asides p m).request Aside ≡ Known q st = sym (iv.asides p m).aside ∙ ap g.fate ep ∙ ex in let k : st ≡ Aside = cc in na k)
          ∙ fate_other g.fate t.place x facts.request q (Queued w.frontier) st _ queued_now ex (λ k. nq (sym k))

      below : Least w.drawn w.frontier → next ≤ w.drawn
      below (atmost le b) = let all : None ≡ Some t = sym (iv.above w.frontier le) ∙ e in absurd cc
      below (above lt b) = lt

      stays_so : (s : ℕ) (j : Request) (r : Reply) → StaysFacts z w.log g.settled s j r → StaysFacts z w'.log g'.settled s j r
      stays_so s j r h = h

      left_aside : (p : Parked) → Has p g.parked → p.number ≢ next → (q : Request) → g.fate p.place ≡ Known q Aside → after_all.fate p.place ≡ Known q Aside
      left_aside p m ne q eq =
          after_all.same_fate p.place (λ x mx en ep. ne (ap (λ (y : Parked). y.number) (sym (apart_same g.parked iv.apart p x m mx ep)) ∙ en))
          ∙ fate_other g.fate t.place p.place facts.request q (Queued w.frontier) Aside _ queued_now eq (λ x. cc)

      parked : (p : Parked) → Has p (rest next g.parked) → ParkedFacts z w' g' p
      parked p m =
          let m' = rest_of next g.parked p m in
          let h = iv.asides p m'.0 in
          record {
            ahead = (let a = h.ahead in let b = m'.1 in omega arith);
            request = h.request;
            aside = left_aside p m'.0 m'.1 h.request h.aside;
            reply = h.reply;
            stays = stays_so p.number h.request h.reply h.stays;
          }

      written : (i : ℕ) (u : Writing) → WritingFacts z w g i u → WritingFacts z w' g' i u
      written i u h = record {
        request = h.request;
        routed = h.routed;
        settled = h.settled;
        judged = h.judged;
        queued = λ le. saves u.place h.request (Queued i) (h.queued (omega arith)) (λ x. cc) (λ x. let k : i ≡ w.frontier = cc in omega arith);
      }

      told_parked : (d j : ℕ) (q : Request) (r : Reply) (s : ℕ) → s ≡ next → Has (record { number = s; caller = d; place = j }) g.parked → g.fate j ≡ Known q Aside → StaysFacts z w.log g.settled s q r → Tells z after_all.jobs j r
      told_parked d j q r s es m eq st =
          subst (λ v. Tells z after_all.jobs j v) (ap (λ (x : Store × Reply). x.1) (stays_now s q r es st))
          (after_all.told_now (record { number = s; caller = d; place = j }) m es q (fate_other g.fate t.place j facts.request q (Queued w.frontier) Aside _ queued_now eq (λ x. cc)))

      told_write : (j : ℕ) (r : Reply) (i : ℕ) (u : Writing) → i ≡ w.frontier → w.log i ≡ Some u → u.place ≡ j → accepted_reply u.change (suc i) ≡ r → Tells z after_all.jobs j r
      told_write j r i u ei eu ep er =
          let all : Some t ≡ Some u = sym e ∙ ap w.log (sym ei) ∙ eu in
          let same_write : t ≡ u = cc in
          after_all.tells j r (inl (
            ap (λ (y : Writing). y.place) same_write ∙ ep,
            ap (λ s. (step s facts.request).1) iv.state ∙ ap (λ (x : Store × Reply). x.1) written_now ∙ ap (λ (y : Writing). accepted_reply y.change next) same_write ∙ ap (λ n. accepted_reply u.change (suc n)) (sym ei) ∙ er,
          ))

      waits : (d s j : ℕ) (r : Reply) → w.frontier < s → AwaitFacts z w.log g.parked g.fate g.settled d s j r → Compared s next → WaitingFacts z w' g' d s j r
      waits d s j r lt (is_aside y m ey st) (same es b) = record { passed = λ le. told_parked d j y r s es m ey st; awaits = λ l. absurd (omega arith) }
      waits d s j r lt (is_queued i u e1 e2 e3 e4) (same es b) = record { passed = λ le. told_write j r i u (omega arith) e2 e3 e4; awaits = λ l. absurd (omega arith) }
      waits d s j r lt (is_aside y m ey st) (other ne b) = record { passed = λ le. absurd (omega arith); awaits = λ l. is_aside y (rest_keeps next g.parked (record { number = s; caller = d; place = j }) m ne) (left_aside (record { number = s; caller = d; place = j }) m ne y ey) (stays_so s y r st) }
      waits d s j r lt (is_queued i u e1 e2 e3 e4) (other ne b) = record { passed = λ le. absurd (omega arith); awaits = λ l. is_queued i u e1 e2 e3 e4 }

      framed : (d : ℕ) → Frame z w g w' g' d
      framed d = record {
        live = λ p q ep. saves p q (Live d) ep (λ x. cc) (λ x. cc);
        holds = λ s h. h;
        taken = λ i lt h. h;
        drawn = omega arith;
        front = omega arith;
        still_empty = λ i lt h n a. (n, further i n a (compare i w.frontier));
        settled = λ k h. refl;
        newest = λ k h. refl;
        below = λ n k h. refl;
        past = λ n k h. refl;
        states = λ n h. refl;
        tells = λ p r h. after_all.tells p r (inr h);
        waits = λ s j r lt a. waits d s j r lt a (compare s next);
      }
        where
          further : (i : ℕ) → w.log i ≡ None → w.frontier ≤ i → Compared i w.frontier → next ≤ i
          further i n a (same ei b) = let all : None ≡ Some t = sym n ∙ ap w.log ei ∙ e in absurd cc
          further i n a (other ne b) = omega arith

  pub raise_goes : (o : Option Writing) → w.log w.frontier ≡ o → Holds z (later (raised w o)) (passed (suc w.frontier) o a)
  raise_goes None e = (g, (idle z w g iv, sh))
  raise_goes (Some t) e = raise_some t e

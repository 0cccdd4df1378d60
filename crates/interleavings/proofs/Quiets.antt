-- The events of one caller that allocate no number, add no write and leave the frontier.
use Rattle.std.proofs.Common.{◌≡◌, ◌≢◌, ℕ, ◌<◌, ◌≤◌, ◌⊎◌, ◌&&◌, Bool, true, false, cond, List, [], ◌∷◌, ◌++◌, Option, Some, None, refl, sym, ap, ◌∙◌, subst, inl, inr, arith, mod-lt, nat_le, nat_eq, ⊎_elim}
use Rattle.std.specs.List.{sum}
use Rattle.std.specs.FinMap as map
use Rattle.std.specs.FinMap.{get-empty}
use Rattle.objects.specs.declared.key.Key.{Key}
use Rattle.objects.specs.declared.kind.Kind.{Kind}
use Rattle.objects.specs.Key.{key_cmp}
use Rattle.objects.specs.ShardOf.{key_text}
use Rattle.requests.specs.declared.request.Request.{Request}
use Rattle.requests.specs.declared.reply.Reply.{Reply}
use Rattle.requests.specs.declared.reply.Reply.TheVariants.{Compacted, Listed, Refused, Unchanged}
use Rattle.requests.specs.declared.reply.Reason.{Reason}
use Rattle.requests.specs.declared.reply.Reason.TheVariants.{StoreFull}
use Rattle.requests.specs.declared.verdict.Verdict.{Verdict}
use Rattle.requests.specs.declared.verdict.Verdict.TheVariants.{Refuse, Same, Write}
use Rattle.requests.specs.Verdict.{verdict}
use Rattle.interleavings.specs.declared.trace.Item.TheVariants as item
use Rattle.plain_store.specs.Route.{Route, compacts, gets, lists, lists_at, route, writes}
use Rattle.plain_store.specs.Store.{Objects, Store, collection, compacted_to, denied, listed_at, map_at, routed, step}
use Rattle.interleavings.specs.Log.{Writing, last_write, state_at, value}
use Rattle.interleavings.specs.World.{Phase, Idle, Called, Holding, Drawn, Waiting, Reading, Gone, Size, World, changed, shard}
use Rattle.interleavings.specs.Order.{Arrangement, Parked, last_or_parked, moved, with_last, without}
use Rattle.interleavings.specs.Step.{all_shards, begun, begun_unless, called, checked, checked_by, checked_in, compacted, compacted_by, crashed, enters, enters_with, floored, with_reply, with_reply_if, with_read_reply, judged, later, only, part, part_of, read, read_at, read_at_by, read_by, reads, replied, with_part}
use Rattle.interleavings.specs.Linearization.{Has}
use Rattle.interleavings.proofs.Basics.{Compared, same, other, compare, changed-same, changed-other, Least, atmost, above, least, changed_key, changed_key-same, changed_key-other, changed_key_all, keys_equal}
use Rattle.interleavings.proofs.Values.{get_part, last_bound, last_le, part_of_none, part_of_same, value_last}
use Rattle.interleavings.proofs.Plainly.{by_verdict, compacts_there, denied_none, denied_self, judge, judge_full, judge_stays, plainly, plainly_map_at, stays, stays_there, step_routed}
use Rattle.interleavings.proofs.Lists.{has_range}
use Rattle.interleavings.proofs.Jobs.{Job, Tells}
use Rattle.interleavings.proofs.Histories.{all_answered, called_last}
use Rattle.interleavings.proofs.Orders.{asked, emit, fate_other, later_on, live-placed, now_new, opens_more, refate, replied_now}
use Rattle.interleavings.proofs.Collected.{same_answer}
use Rattle.interleavings.proofs.Invariant.{Apart, Aside, Fate, Ghost, HoldingFacts, Invariant, IsLastCall, Known, Live, New, Opens, ParkedFacts, PhaseFacts, Placed, ReadingFacts, StaysFacts, is_aside}
use Rattle.interleavings.proofs.Arranged.{Holds, Moves, Shows, backwards_without, moved_same}
use Rattle.interleavings.proofs.Frames.{idle, next_ghost, next_world, quiet}

pub shard_below : (z : Size) (k : Key) → 0 < z.shards → shard z k < z.shards
unfolding shard
shard_below z k h = mod-lt (sum (key_text k)) h

in_all_shards : (z : Size) (k : Key) → 0 < z.shards → Has (shard z k) (all_shards z)
in_all_shards z k some = let l : shard z k < z.shards = shard_below z k some in has_range 0 z.shards (shard z k) (omega arith) (omega arith)

-- ---- the parked requests of the others
without_keeps : (c : ℕ) (ps : List Parked) (p : Parked) → Has p ps → p.caller ≢ c → Has p (without c ps)
without_keeps c [] p h ne = absurd h
without_keeps c (x ∷ ps) p h ne = go h (compare x.caller c) (without_keeps c ps p)
  where
    go : (p ≡ x) ⊎ Has p ps → Compared x.caller c → (Has p ps → p.caller ≢ c → Has p (without c ps)) → Has p (cond (nat_eq x.caller c) (without c ps) (x ∷ without c ps))
    go (inl e) (same k b) ih = absurd (ne (ap (λ (y : Parked). y.caller) e ∙ k))
    go (inl e) (other k b) ih = rw b (inl e)
    go (inr m) (same k b) ih = rw b (ih m ne)
    go (inr m) (other k b) ih = rw b (inr (ih m ne))

without_of : (c : ℕ) (ps : List Parked) (p : Parked) → Has p (without c ps) → Has p ps
without_of c [] p h = h
without_of c (x ∷ ps) p h = go (nat_eq x.caller c) h (without_of c ps p)
  where
    go : (b : Bool) → Has p (cond b (without c ps) (x ∷ without c ps)) → (Has p (without c ps) → Has p ps) → (p ≡ x) ⊎ Has p ps
    go true h ih = inr (ih h)
    go false (inl e) ih = inl e
    go false (inr m) ih = inr (ih m)

without_apart : (c : ℕ) (ps : List Parked) → Apart ps → Apart (without c ps)
without_apart c [] h = tt
without_apart c (x ∷ ps) h = go (nat_eq x.caller c) (without_apart c ps h.1)
  where
    go : (b : Bool) → Apart (without c ps) → Apart (cond b (without c ps) (x ∷ without c ps))
    go true ih = ih
    go false ih = (λ q m. h.0 q (without_of c ps q m), ih)

pub some_same : {a b : ℕ} → Some a ≡ Some b → a ≡ b
some_same e = cc

module _ (z : Size) (w : World) (g : Ghost) (iv : Invariant z w g) (a : Arrangement) (sh : Shows g a) (c : ℕ) where
  -- an event that is not enabled
  pub idle_goes : (ph : Phase) → w.phase c ≡ ph → Moves z w c ph a (later w)
  idle_goes ph at = record { after = ph; entered = at; holds = (g, (idle z w g iv, subst (λ b. Shows g b) (sym (moved_same w.frontier c ph a)) sh)) }

  entered : (ph : Phase) → changed w.phase c ph c ≡ ph
  entered ph = changed-same w.phase c ph

  -- the others' calls stay as they are
  calls_stay : (d : ℕ) → d ≢ c → (ph : Phase) → Opens w.trace d ph → Opens w.trace d ph
  calls_stay d ne ph h = h

  -- a reply to a request that changes nothing: at once, or once the frontier passes what it saw
  pub wait_goes : (j : Job) (r : Reply) (saw : ℕ) (k : Key) (h' : ℕ → Option ℕ) (b' : Key → ℕ) → g.fate j.place ≡ Known j.request (Live c) → IsLastCall w.trace c j.place → route j.request ≡ writes k → judge z saw (value w.log saw k) j.request ≡ stays r → (saw ≤ w.frontier → judge z w.frontier (value w.log w.frontier k) j.request ≡ stays r) → saw ≤ b' k → ((d s : ℕ) → d ≢ c → w.holder s ≡ Some d → h' s ≡ Some d) → ((k : Key) → g.settled k ≤ b' k) → ((k : Key) (d : ℕ) → d ≢ c → w.holder (shard z k) ≡ Some d → b' k ≡ g.settled k) → ((k : Key) → b' k ≤ w.drawn) → Holds z (next_world w w.floor h' (changed w.phase c (Waiting saw j.place r)) w.trace) (last_or_parked (nat_le saw w.frontier) saw c j.place a)
  wait_goes j r saw k h' b' live op routed judged judged_now settled holds settles settled_same bound = go (least saw w.frontier)
    where
      placed : ℕ → Fate
      placed = changed g.fate j.place (Known j.request Placed)

      put_aside : ℕ → Fate
      put_aside = changed g.fate j.place (Known j.request Aside)

      new : Parked
      new = record { number = saw; caller = c; place = j.place }

      w' : World
      w' = next_world w w.floor h' (changed w.phase c (Waiting saw j.place r)) w.trace

      there : saw ≤ w.frontier → step (plainly z w.log w.floor w.frontier) j.request ≡ (plainly z w.log w.floor w.frontier, r)
      there le = stays_there z w.log w.floor w.frontier k j.request r routed (judged_now le)

      now : saw ≤ w.frontier → Invariant z w' (next_ghost g placed b' (j ∷ g.jobs) g.parked)
      now le = quiet z w g c w.floor h' (Waiting saw j.place r) (j ∷ g.jobs) g.parked w.trace placed b' iv (record {
        good = later_on z w.trace w.now (j ∷ g.jobs) placed (emit z w.trace w.now g.jobs g.fate iv.good j (Live c) live (live-placed c));
        standing = iv.standing;
        state = ap (λ s. (step s j.request).0) iv.state ∙ ap (λ (e : Store × Reply). e.0) (there le);
        saves = λ p q st e ne. fate_other g.fate j.place p j.request q (Live c) st _ live e (λ x. ne (sym x));
        holds = holds;
        settles = settles;
        settled_same = settled_same;
        bound = bound;
        tells = λ p r h. inr h;
        keeps = λ p m ne. m;
        asides = λ p m. inl m;
        apart = iv.apart;
        calls = calls_stay;
        call_mine = op;
        mine = record {
          passed = λ _. inl (refl, ap (λ s. (step s j.request).1) iv.state ∙ ap (λ (e : Store × Reply). e.1) (there le));
          awaits = λ lt. absurd (omega arith);
        };
      })

      stays_so : StaysFacts z w.log b' saw j.request r
      stays_so = record { key = k; routed = routed; settled = settled; judged = judged }

      g2 : Ghost
      g2 = next_ghost g put_aside b' g.jobs (new ∷ g.parked)

      new_facts : w.frontier < saw → ParkedFacts z w' g2 new
      new_facts lt = record { ahead = lt; request = j.request; aside = changed-same g.fate j.place (Known j.request Aside); reply = r; stays = stays_so }

      asides : w.frontier < saw → (p : Parked) → (p ≡ new) ⊎ Has p g.parked → Has p g.parked ⊎ ParkedFacts z w' g2 p
      asides lt p (inl e) = inr (subst (λ x. ParkedFacts z w' g2 x) (sym e) (new_facts lt))
      asides lt p (inr m) = inl m

      not_yet : w.frontier < saw → Invariant z w' g2
      not_yet lt = quiet z w g c w.floor h' (Waiting saw j.place r) g.jobs (new ∷ g.parked) w.trace put_aside b' iv (record {
        good = later_on z w.trace w.now g.jobs put_aside (refate z w.trace w.now g.jobs g.fate iv.good j.place j.request (Live c) Aside live (live-placed c));
        standing = iv.standing;
        state = iv.state;
        saves = λ p q st e ne. fate_other g.fate j.place p j.request q (Live c) st _ live e (λ x. ne (sym x));
        holds = holds;
        settles = settles;
        settled_same = settled_same;
        bound = bound;
        tells = λ p r h. h;
        keeps = λ p m ne. inr m;
        asides = asides lt;
        apart = (λ q m e. let all : Known (iv.asides q m).request Aside ≡ Known j.request (Live c) = sym (iv.asides q m).aside ∙ ap g.fate e ∙ live in cc, iv.apart);
        calls = calls_stay;
        call_mine = op;
        mine = record { passed = λ le. absurd (omega arith); awaits = λ _. is_aside j.request (inl refl) (changed-same g.fate j.place (Known j.request Aside)) stays_so };
      })

      go : Least saw w.frontier → Holds z w' (last_or_parked (nat_le saw w.frontier) saw c j.place a)
      go (atmost le e) = rw e (next_ghost g placed b' (j ∷ g.jobs) g.parked, (now le, record { order = ap (λ l. l ++ j.place ∷ []) sh.order; parked = sh.parked }))
      go (above lt e) = rw e (g2, (not_yet lt, record { order = sh.order; parked = ap (λ l. l ++ new ∷ []) sh.parked }))

  -- ---- Call
  pub call_goes : (q : Request) (ph : Phase) → w.phase c ≡ ph → Opens w.trace c ph → Moves z w c ph a (later (called w c q ph))
  call_goes q Idle at op = record {
    after = Called w.now q;
    entered = entered (Called w.now q);
    holds = (
      next_ghost g φ g.settled g.jobs g.parked,
      (
        quiet z w g c w.floor w.holder (Called w.now q) g.jobs g.parked (w.trace ++ item.Call w.now c q ∷ []) φ g.settled iv (record {
          good = asked z w.trace w.now g.jobs g.fate iv.good c q op;
          standing = iv.standing;
          state = iv.state;
          saves = λ p y st e ne. changed-other g.fate w.now (Known q (Live c)) p (λ k. let all : New ≡ Known y st = sym (now_new z w.trace w.now g.jobs g.fate iv.good) ∙ ap g.fate (sym k) ∙ e in cc) ∙ e;
          holds = λ d s ne e. e;
          settles = λ k. omega arith;
          settled_same = λ k d ne e. refl;
          bound = iv.bound;
          tells = λ p r h. h;
          keeps = λ p m ne. m;
          asides = λ p m. inl m;
          apart = iv.apart;
          calls = opens_more w.trace w.now iv.good.dated (item.Call w.now c q) refl;
          call_mine = called_last w.trace w.now iv.good.dated iv.good.history c q;
          mine = changed-same g.fate w.now (Known q (Live c));
        }),
        record { order = sh.order; parked = sh.parked },
      ),
    );
  }
    where
      φ : ℕ → Fate
      φ = changed g.fate w.now (Known q (Live c))
  call_goes q ph at op = idle_goes ph at

  -- ---- a change of the caller's phase alone, and of the shard that it holds
  phase_goes : (ph : Phase) (h' : ℕ → Option ℕ) → Opens w.trace c ph → ((d s : ℕ) → d ≢ c → w.holder s ≡ Some d → h' s ≡ Some d) → PhaseFacts z (next_world w w.floor h' (changed w.phase c ph) w.trace) (next_ghost g g.fate g.settled g.jobs g.parked) c ph → Holds z (next_world w w.floor h' (changed w.phase c ph) w.trace) a
  phase_goes ph h' op holds mine = (
    next_ghost g g.fate g.settled g.jobs g.parked,
    (
      quiet z w g c w.floor h' ph g.jobs g.parked w.trace g.fate g.settled iv (record {
        good = later_on z w.trace w.now g.jobs g.fate iv.good;
        standing = iv.standing;
        state = iv.state;
        saves = λ p y st e ne. e;
        holds = holds;
        settles = λ k. omega arith;
        settled_same = λ k d ne e. refl;
        bound = iv.bound;
        tells = λ p r h. h;
        keeps = λ p m ne. m;
        asides = λ p m. inl m;
        apart = iv.apart;
        calls = calls_stay;
        call_mine = op;
        mine = mine;
      }),
      record { order = sh.order; parked = sh.parked },
    ),
  )

  -- into a phase that does not change the order
  enter_goes : (before ph : Phase) → (moved w.frontier c before ph a ≡ a) → (h' : ℕ → Option ℕ) → Opens w.trace c ph → ((d s : ℕ) → d ≢ c → w.holder s ≡ Some d → h' s ≡ Some d) → PhaseFacts z (next_world w w.floor h' (changed w.phase c ph) w.trace) (next_ghost g g.fate g.settled g.jobs g.parked) c ph → Moves z w c before a (next_world w w.floor h' (changed w.phase c ph) w.trace)
  enter_goes before ph same_order h' op holds mine = record { after = ph; entered = entered ph; holds = subst (Holds z (next_world w w.floor h' (changed w.phase c ph) w.trace)) (sym same_order) (phase_goes ph h' op holds mine) }

  -- ---- Check
  check_stays : (j : Job) (k : Key) (r : Reply) → g.fate j.place ≡ Known j.request (Live c) → IsLastCall w.trace c j.place → route j.request ≡ writes k → by_verdict (verdict j.request (value w.log w.drawn k)) ≡ stays r → Moves z w c (Called j.place j.request) a (later (enters w c (Waiting (last_write w.log w.drawn k) j.place r)))
  check_stays j k r live op routed e =
      let saw = last_write w.log w.drawn k in
      let within : saw ≤ w.drawn = last_le w.log k w.drawn in
      record {
        after = Waiting saw j.place r;
        entered = entered (Waiting saw j.place r);
        holds = wait_goes j r saw k w.holder g.settled live op routed
            (judge_stays z saw _ j.request r (ap (λ v. by_verdict (verdict j.request v)) (value_last w.log k w.drawn saw (omega arith) within) ∙ e))
            (λ le. judge_stays z w.frontier _ j.request r (ap (λ v. by_verdict (verdict j.request v)) (value_last w.log k w.drawn w.frontier le iv.within) ∙ e))
            (last_bound w.log g.settled (λ i t e. (iv.writings i t e).settled) k w.drawn)
            (λ d s ne e. e) (λ k. omega arith) (λ k d ne e. refl) iv.bound;
      }

  check_verdict : (j : Job) (k : Key) → g.fate j.place ≡ Known j.request (Live c) → IsLastCall w.trace c j.place → route j.request ≡ writes k → w.holder (shard z k) ≡ None → (v : Verdict) → verdict j.request (value w.log w.drawn k) ≡ v → Moves z w c (Called j.place j.request) a (later (judged z w c j.place k v))
  check_verdict j k live op routed free (Refuse reason) e = check_stays j k (Refused reason) live op routed (ap by_verdict e)
  check_verdict j k live op routed free (Same o) e = check_stays j k (Unchanged o) live op routed (ap by_verdict e)
  check_verdict j k live op routed free (Write change) e = enter_goes (Called j.place j.request) (Holding t) refl (changed w.holder (shard z k) (Some c)) op
      (λ d s ne e. changed-other w.holder (shard z k) (Some c) s (λ x. let all : None ≡ Some d = sym free ∙ ap w.holder (sym x) ∙ e in cc) ∙ e)
      (record { request = j.request; held = record { live = live; holds = changed-same w.holder (shard z k) (Some c); routed = routed }; judged = ap by_verdict e })
    where
      t : Writing
      t = record { place = j.place; key = k; change = change }

  check_in : (j : Job) (k : Key) → w.phase c ≡ Called j.place j.request → g.fate j.place ≡ Known j.request (Live c) → IsLastCall w.trace c j.place → route j.request ≡ writes k → (o : Option ℕ) → w.holder (shard z k) ≡ o → Moves z w c (Called j.place j.request) a (later (checked_in z w c j.place j.request k o))
  check_in j k at live op routed None free = check_verdict j k live op routed free (verdict j.request (value w.log w.drawn k)) refl
  check_in j k at live op routed (Some d) e = idle_goes (Called j.place j.request) at

  check_by : (j : Job) → w.phase c ≡ Called j.place j.request → g.fate j.place ≡ Known j.request (Live c) → IsLastCall w.trace c j.place → (ro : Route) → route j.request ≡ ro → Moves z w c (Called j.place j.request) a (later (checked_by z w c j.place j.request ro))
  check_by j at live op (writes k) e = check_in j k at live op e (w.holder (shard z k)) refl
  check_by j at live op (gets k) e = idle_goes (Called j.place j.request) at
  check_by j at live op (lists kind namespace) e = idle_goes (Called j.place j.request) at
  check_by j at live op (lists_at kind namespace n) e = idle_goes (Called j.place j.request) at
  check_by j at live op (compacts n) e = idle_goes (Called j.place j.request) at

  pub check_goes : (ph : Phase) → w.phase c ≡ ph → PhaseFacts z w g c ph → Opens w.trace c ph → Moves z w c ph a (later (checked z w c ph))
  check_goes (Called p q) at h op = check_by (record { place = p; request = q }) at h op (route q) refl
  check_goes ph at h op = idle_goes ph at

  -- ---- a request that is in the order now
  -- it leaves this floor, and the caller is in this phase
  at_once_goes : (j : Job) (f : ℕ) (ph : Phase) → g.fate j.place ≡ Known j.request (Live c) → Opens w.trace c ph → f ≤ w.frontier → (step (plainly z w.log w.floor w.frontier) j.request).0 ≡ plainly z w.log f w.frontier → ((w' : World) (g' : Ghost) → w'.log ≡ w.log → w'.frontier ≡ w.frontier → Tells z g'.jobs j.place (step (plainly z w.log w.floor w.frontier) j.request).1 → PhaseFacts z w' g' c ph) → Holds z (next_world w f w.holder (changed w.phase c ph) w.trace) (with_last a j.place)
  at_once_goes j f ph live op low left mine = (
    next_ghost g placed g.settled (j ∷ g.jobs) g.parked,
    (
      quiet z w g c f w.holder ph (j ∷ g.jobs) g.parked w.trace placed g.settled iv (record {
        good = later_on z w.trace w.now (j ∷ g.jobs) placed (emit z w.trace w.now g.jobs g.fate iv.good j (Live c) live (live-placed c));
        standing = low;
        state = ap (λ s. (step s j.request).0) iv.state ∙ left;
        saves = λ p q st e ne. fate_other g.fate j.place p j.request q (Live c) st _ live e (λ x. ne (sym x));
        holds = λ d s ne e. e;
        settles = λ k. omega arith;
        settled_same = λ k d ne e. refl;
        bound = iv.bound;
        tells = λ p r h. inr h;
        keeps = λ p m ne. m;
        asides = λ p m. inl m;
        apart = iv.apart;
        calls = calls_stay;
        call_mine = op;
        mine = mine _ _ refl refl (inl (refl, ap (λ s. (step s j.request).1) iv.state));
      }),
      record { order = ap (λ l. l ++ j.place ∷ []) sh.order; parked = sh.parked },
    ),
  )
    where
      placed : ℕ → Fate
      placed = changed g.fate j.place (Known j.request Placed)

  -- with this reply, which waits for no number
  answered_goes : (j : Job) (r : Reply) (f : ℕ) → g.fate j.place ≡ Known j.request (Live c) → IsLastCall w.trace c j.place → f ≤ w.frontier → step (plainly z w.log w.floor w.frontier) j.request ≡ (plainly z w.log f w.frontier, r) → Moves z w c (Called j.place j.request) a (next_world w f w.holder (changed w.phase c (Waiting 0 j.place r)) w.trace)
  answered_goes j r f live op low e = record { after = Waiting 0 j.place r; entered = entered (Waiting 0 j.place r); holds = first (least 0 w.frontier) }
    where
      now_so : Holds z (next_world w f w.holder (changed w.phase c (Waiting 0 j.place r)) w.trace) (with_last a j.place)
      now_so = at_once_goes j f (Waiting 0 j.place r) live op low (ap (λ (x : Store × Reply). x.0) e) (λ w' g' el ef t. record {
        passed = λ _. subst (λ v. Tells z g'.jobs j.place v) (ap (λ (x : Store × Reply). x.1) e) t;
        awaits = λ lt. absurd (omega arith);
      })

      first : Least 0 w.frontier → Holds z (next_world w f w.holder (changed w.phase c (Waiting 0 j.place r)) w.trace) (last_or_parked (nat_le 0 w.frontier) 0 c j.place a)
      first (atmost le b) = rw b now_so
      first (above lt b) = absurd (omega arith)

  -- a read at a number
  begin_goes : (j : Job) (n : ℕ) (parts : List ℕ) → g.fate j.place ≡ Known j.request (Live c) → IsLastCall w.trace c j.place → n ≤ w.frontier → step (plainly z w.log w.floor w.frontier) j.request ≡ (plainly z w.log w.floor w.frontier, (step (only z n (state_at w.log n)) j.request).1) → ((k : Key) → route j.request ≡ writes k → ⊥) → ((k : Key) → reads (route j.request) k ≡ true → Has (shard z k) parts) → Moves z w c (Called j.place j.request) a (later (begun w c n j.place j.request parts))
  begin_goes j n parts live op le e no_write all = record {
    after = Reading n j.place j.request parts map.empty;
    entered = entered (Reading n j.place j.request parts map.empty);
    holds = at_once_goes j w.floor (Reading n j.place j.request parts map.empty) live op iv.standing (ap (λ (x : Store × Reply). x.0) e) (λ w' g' el ef t. record {
      past = subst (λ f. n ≤ f) (sym ef) le;
      tells = subst (λ l. Tells z g'.jobs j.place (step (only z n (state_at l n)) j.request).1) (sym el) (subst (λ v. Tells z g'.jobs j.place v) (ap (λ (x : Store × Reply). x.1) e) t);
      no_write = no_write;
      seen = λ k want. inl (all k want, get-empty key_cmp k);
    });
  }

  -- ---- Read
  abbrev now_store : Store
  now_store = plainly z w.log w.floor w.frontier

  abbrev only_now : Store
  only_now = only z w.frontier (state_at w.log w.frontier)

  read_by_goes : 0 < z.shards → (j : Job) → w.phase c ≡ Called j.place j.request → g.fate j.place ≡ Known j.request (Live c) → IsLastCall w.trace c j.place → (ro : Route) → route j.request ≡ ro → Moves z w c (Called j.place j.request) a (later (read_by z w c j.place j.request ro))
  read_by_goes some j at live op (gets k) e = begin_goes j w.frontier (shard z k ∷ []) live op (omega arith)
      (step_routed now_store j.request (gets k) e ∙ ap (λ r. (now_store, r)) (sym (ap (λ (x : Store × Reply). x.1) (step_routed only_now j.request (gets k) e))))
      (λ l x. let all : gets k ≡ writes l = sym e ∙ x in cc)
      (λ l want. inl (ap (shard z) (keys_equal l k (ap (λ ro. reads ro l) (sym e) ∙ want))))
  read_by_goes some j at live op (lists kind namespace) e = begin_goes j w.frontier (all_shards z) live op (omega arith)
      (step_routed now_store j.request (lists kind namespace) e ∙ ap (λ r. (now_store, r)) (sym (ap (λ (x : Store × Reply). x.1) (step_routed only_now j.request (lists kind namespace) e))))
      (λ l x. let all : lists kind namespace ≡ writes l = sym e ∙ x in cc)
      (λ l want. in_all_shards z l some)
  read_by_goes some j at live op (writes k) e = idle_goes (Called j.place j.request) at
  read_by_goes some j at live op (lists_at kind namespace n) e = idle_goes (Called j.place j.request) at
  read_by_goes some j at live op (compacts n) e = idle_goes (Called j.place j.request) at

  pub read_goes : 0 < z.shards → (ph : Phase) → w.phase c ≡ ph → PhaseFacts z w g c ph → Opens w.trace c ph → Moves z w c ph a (later (read z w c ph))
  read_goes some (Called p q) at h op = read_by_goes some (record { place = p; request = q }) at h op (route q) refl
  read_goes some ph at h op = idle_goes ph at

  -- ---- ReadAt
  begun_unless_goes : 0 < z.shards → (j : Job) (kind : Kind) (namespace : List ℕ) (n : ℕ) → g.fate j.place ≡ Known j.request (Live c) → IsLastCall w.trace c j.place → route j.request ≡ lists_at kind namespace n → (o : Option Reason) → denied w.floor w.frontier n ≡ o → Moves z w c (Called j.place j.request) a (later (begun_unless z w c j.place j.request n o))
  begun_unless_goes some j kind namespace n live op e (Some reason) d = answered_goes j (Refused reason) w.floor live op iv.standing
      (step_routed now_store j.request (lists_at kind namespace n) e ∙ ap (λ o. let x : Store × Reply = (now_store, listed_at n (collection (map_at now_store n) kind namespace) o) in x) d)
  begun_unless_goes some j kind namespace n live op e None d =
      let within = denied_none w.floor w.frontier n d in
      let alone = only z n (state_at w.log n) in
      begin_goes j n (all_shards z) live op within.1
      (step_routed now_store j.request (lists_at kind namespace n) e
      ∙ ap (λ r. let x : Store × Reply = (now_store, r) in x)
      (ap (listed_at n (collection (map_at now_store n) kind namespace)) d ∙ ap (λ m. Listed (collection m kind namespace) n) (plainly_map_at z w.log w.floor w.frontier n within.0 within.1)
      ∙ sym (ap (λ (x : Store × Reply). x.1) (step_routed alone j.request (lists_at kind namespace n) e) ∙ ap (listed_at n (collection (state_at w.log n) kind namespace)) (denied_self n))))
      (λ l x. let all : lists_at kind namespace n ≡ writes l = sym e ∙ x in cc)
      (λ l want. in_all_shards z l some)

  read_at_by_goes : 0 < z.shards → (j : Job) → w.phase c ≡ Called j.place j.request → g.fate j.place ≡ Known j.request (Live c) → IsLastCall w.trace c j.place → (ro : Route) → route j.request ≡ ro → Moves z w c (Called j.place j.request) a (later (read_at_by z w c j.place j.request ro))
  read_at_by_goes some j at live op (lists_at kind namespace n) e = begun_unless_goes some j kind namespace n live op e (denied w.floor w.frontier n) refl
  read_at_by_goes some j at live op (gets k) e = idle_goes (Called j.place j.request) at
  read_at_by_goes some j at live op (lists kind namespace) e = idle_goes (Called j.place j.request) at
  read_at_by_goes some j at live op (writes k) e = idle_goes (Called j.place j.request) at
  read_at_by_goes some j at live op (compacts n) e = idle_goes (Called j.place j.request) at

  pub read_at_goes : 0 < z.shards → (ph : Phase) → w.phase c ≡ ph → PhaseFacts z w g c ph → Opens w.trace c ph → Moves z w c ph a (later (read_at z w c ph))
  read_at_goes some (Called p q) at h op = read_at_by_goes some (record { place = p; request = q }) at h op (route q) refl
  read_at_goes some ph at h op = idle_goes ph at

  -- ---- Compact
  floored_goes : (j : Job) (n : ℕ) → g.fate j.place ≡ Known j.request (Live c) → IsLastCall w.trace c j.place → route j.request ≡ compacts n → (o : Option Reason) → denied w.floor w.frontier n ≡ o → Moves z w c (Called j.place j.request) a (later (floored w c j.place n o))
  floored_goes j n live op e (Some reason) d = answered_goes j (Refused reason) w.floor live op iv.standing
      (step_routed now_store j.request (compacts n) e ∙ ap (compacted_to now_store n) d)
  floored_goes j n live op e None d = answered_goes j (Compacted n) n live op (denied_none w.floor w.frontier n d).1
      (compacts_there z w.log w.floor w.frontier n j.request e d)

  compacted_by_goes : (j : Job) → w.phase c ≡ Called j.place j.request → g.fate j.place ≡ Known j.request (Live c) → IsLastCall w.trace c j.place → (ro : Route) → route j.request ≡ ro → Moves z w c (Called j.place j.request) a (later (compacted_by w c j.place ro))
  compacted_by_goes j at live op (compacts n) e = floored_goes j n live op e (denied w.floor w.frontier n) refl
  compacted_by_goes j at live op (gets k) e = idle_goes (Called j.place j.request) at
  compacted_by_goes j at live op (lists kind namespace) e = idle_goes (Called j.place j.request) at
  compacted_by_goes j at live op (writes k) e = idle_goes (Called j.place j.request) at
  compacted_by_goes j at live op (lists_at kind namespace n) e = idle_goes (Called j.place j.request) at

  pub compact_goes : (ph : Phase) → w.phase c ≡ ph → PhaseFacts z w g c ph → Opens w.trace c ph → Moves z w c ph a (later (compacted w c ph))
  compact_goes (Called p q) at h op = compacted_by_goes (record { place = p; request = q }) at h op (route q) refl
  compact_goes ph at h op = idle_goes ph at

  -- ---- Part
  part_of_goes : (n j : ℕ) (q : Request) (parts : List ℕ) (got : Objects) → w.phase c ≡ Reading n j q parts got → ReadingFacts z w g n j q parts got → IsLastCall w.trace c j → Moves z w c (Reading n j q parts got) a (later (part_of z w c n j q parts got))
  unfolding with_part
  part_of_goes n j q [] got at h op = idle_goes (Reading n j q [] got) at
  part_of_goes n j q (s ∷ parts) got at h op = enter_goes (Reading n j q (s ∷ parts) got) (Reading n j q parts (with_part z w.log n q s got)) refl w.holder op (λ d s ne e. e) (record { past = h.past; tells = h.tells; no_write = h.no_write; seen = λ k want. seen k want (compare (shard z k) s) (h.seen k want) })
    where
      both : (b c : Bool) → b ≡ true → c ≡ true → (b && c) ≡ true
      both b c e f = ap (λ v. v && c) e ∙ f

      second : (b c : Bool) → b ≡ true → c ≡ false → (b && c) ≡ false
      second b c e f = ap (λ v. v && c) e ∙ f

      old_value : (k : Key) → ((Has (shard z k) (s ∷ parts)) × (map.get got k ≡ None)) ⊎ (map.get got k ≡ value w.log n k) → (map.get got k ≡ None) ⊎ (map.get got k ≡ value w.log n k)
      old_value k (inl h) = inl h.1
      old_value k (inr h) = inr h

      wanted : Key → Bool
      wanted l = reads (route q) l && nat_eq (shard z l) s

      seen : (k : Key) → reads (route q) k ≡ true → Compared (shard z k) s → (((shard z k ≡ s) ⊎ Has (shard z k) parts) × (map.get got k ≡ None)) ⊎ (map.get got k ≡ value w.log n k) → (Has (shard z k) parts × (map.get (with_part z w.log n q s got) k ≡ None)) ⊎ (map.get (with_part z w.log n q s got) k ≡ value w.log n k)
      seen k want (same e b) old = inr (get_part w.log n wanted got k ∙ part_of_same _ _ _ (both _ _ want b) (old_value k old))
      seen k want (other ne b) old = go old
        where
          kept_old : map.get (with_part z w.log n q s got) k ≡ map.get got k
          kept_old = get_part w.log n wanted got k ∙ part_of_none _ _ _ (second _ _ want b)

          go : (((shard z k ≡ s) ⊎ Has (shard z k) parts) × (map.get got k ≡ None)) ⊎ (map.get got k ≡ value w.log n k) → (Has (shard z k) parts × (map.get (with_part z w.log n q s got) k ≡ None)) ⊎ (map.get (with_part z w.log n q s got) k ≡ value w.log n k)
          go (inl h) = inl (⊎_elim (λ e. absurd (ne e)) (λ m. m) h.0, kept_old ∙ h.1)
          go (inr e) = inr (kept_old ∙ e)

  pub part_goes : (ph : Phase) → w.phase c ≡ ph → PhaseFacts z w g c ph → Opens w.trace c ph → Moves z w c ph a (later (part z w c ph))
  part_goes (Reading n j q parts got) at h op = part_of_goes n j q parts got at h op
  part_goes ph at h op = idle_goes ph at

  -- ---- Reply
  with_reply_goes : (j : ℕ) (r : Reply) → IsLastCall w.trace c j → Tells z g.jobs j r → Holds z (later (with_reply w c r)) a
  with_reply_goes j r op tells = (
    next_ghost g g.fate g.settled g.jobs g.parked,
    (
      quiet z w g c w.floor w.holder Idle g.jobs g.parked (w.trace ++ item.Reply w.now c r ∷ []) g.fate g.settled iv (record {
        good = replied_now z w.trace w.now g.jobs g.fate iv.good c j r op tells;
        standing = iv.standing;
        state = iv.state;
        saves = λ p y st e ne. e;
        holds = λ d s ne e. e;
        settles = λ k. omega arith;
        settled_same = λ k d ne e. refl;
        bound = iv.bound;
        tells = λ p r h. h;
        keeps = λ p m ne. m;
        asides = λ p m. inl m;
        apart = iv.apart;
        calls = opens_more w.trace w.now iv.good.dated (item.Reply w.now c r) refl;
        call_mine = all_answered w.trace w.now iv.good.dated iv.good.history c j r op;
        mine = tt;
      }),
      record { order = sh.order; parked = sh.parked },
    ),
  )

  with_read_reply_goes : (n j : ℕ) (q : Request) (parts : List ℕ) (got : Objects) → w.phase c ≡ Reading n j q parts got → ReadingFacts z w g n j q parts got → IsLastCall w.trace c j → Moves z w c (Reading n j q parts got) a (later (with_read_reply z w c n q parts got))
  with_read_reply_goes n j q (s ∷ parts) got at h op = idle_goes (Reading n j q (s ∷ parts) got) at
  with_read_reply_goes n j q [] got at h op = record { after = Idle; entered = entered Idle; holds = with_reply_goes j _ op (subst (λ r. Tells z g.jobs j r) (same_answer z w.log n q got (route q) refl h.no_write (λ k want. seen k (h.seen k want))) h.tells) }
    where
      seen : (k : Key) → (⊥ × (map.get got k ≡ None)) ⊎ (map.get got k ≡ value w.log n k) → map.get got k ≡ value w.log n k
      seen k (inl h) = absurd h.0
      seen k (inr e) = e

  pub reply_goes : (ph : Phase) → w.phase c ≡ ph → PhaseFacts z w g c ph → Opens w.trace c ph → Moves z w c ph a (later (replied z w c ph))
  reply_goes (Waiting saw j r) at h op = go (least saw w.frontier)
    where
      go : Least saw w.frontier → Moves z w c (Waiting saw j r) a (later (with_reply_if (nat_le saw w.frontier) w c r))
      go (atmost le e) = rw e (record { after = Idle; entered = entered Idle; holds = with_reply_goes j r op (h.passed le) })
      go (above lt e) = rw e (idle_goes (Waiting saw j r) at)
  reply_goes (Reading n j q parts got) at h op = with_read_reply_goes n j q parts got at h op
  reply_goes ph at h op = idle_goes ph at

  -- ---- Crash
  pub free_holds : (k : Key) → w.holder (shard z k) ≡ Some c → (d s : ℕ) → d ≢ c → w.holder s ≡ Some d → changed w.holder (shard z k) None s ≡ Some d
  free_holds k held d s ne e = changed-other w.holder (shard z k) None s (λ x. ne (some_same (sym e ∙ ap w.holder x ∙ held))) ∙ e

  pub crash_goes : (ph : Phase) → w.phase c ≡ ph → PhaseFacts z w g c ph → Opens w.trace c ph → Moves z w c ph a (later (crashed z w c ph))
  crash_goes Idle at h op = enter_goes Idle (Gone None) refl w.holder tt (λ d s ne e. e) tt
  crash_goes (Called p q) at h op = enter_goes (Called p q) (Gone None) refl w.holder tt (λ d s ne e. e) tt
  crash_goes (Holding t) at h op = enter_goes (Holding t) (Gone None) refl (changed w.holder (shard z t.key) None) tt (free_holds t.key h.held.holds) tt
  crash_goes (Drawn x) at h op = enter_goes (Drawn x) (Gone (Some x)) refl w.holder tt (λ d s ne e. e) (record { request = h.request; held = record { live = h.held.live; holds = h.held.holds; routed = h.held.routed }; ahead = h.ahead; below = h.below; empty = h.empty; taken = h.taken; later = h.later; judged = h.judged })
  crash_goes (Waiting saw j r) at h op = record {
    after = Gone None;
    entered = entered (Gone None);
    holds = (
      next_ghost g g.fate g.settled g.jobs (without c g.parked),
      (
        quiet z w g c w.floor w.holder (Gone None) g.jobs (without c g.parked) w.trace g.fate g.settled iv (record {
          good = later_on z w.trace w.now g.jobs g.fate iv.good;
          standing = iv.standing;
          state = iv.state;
          saves = λ p y st e ne. e;
          holds = λ d s ne e. e;
          settles = λ k. omega arith;
          settled_same = λ k d ne e. refl;
          bound = iv.bound;
          tells = λ p r h. h;
          keeps = λ p m ne. without_keeps c g.parked p m ne;
          asides = λ p m. inl (without_of c g.parked p m);
          apart = without_apart c g.parked iv.apart;
          calls = calls_stay;
          call_mine = tt;
          mine = tt;
        }),
        record { order = sh.order; parked = backwards_without c g.parked ∙ ap (without c) sh.parked },
      ),
    );
  }
  crash_goes (Reading n j q parts got) at h op = enter_goes (Reading n j q parts got) (Gone None) refl w.holder tt (λ d s ne e. e) tt
  crash_goes (Gone left) at h op = idle_goes (Gone left) at

  -- ---- Reserve, when no number is left
  pub reserve_full : (t : Writing) → HoldingFacts z w g c t → IsLastCall w.trace c t.place → z.capacity ≤ w.drawn → Moves z w c (Holding t) a (later (enters_with z w c t.key None (Waiting z.capacity t.place (Refused StoreFull))))
  reserve_full t h op all =
      let r = iv.room in
      let f = iv.within in
      let full : w.drawn ≡ z.capacity = omega arith in
      record {
        after = Waiting z.capacity t.place (Refused StoreFull);
        entered = entered (Waiting z.capacity t.place (Refused StoreFull));
        holds = wait_goes (record { place = t.place; request = h.request }) (Refused StoreFull) z.capacity t.key (changed w.holder (shard z t.key) None) b' h.held.live op h.held.routed
            (judge_full z z.capacity _ h.request t.change refl (ap (λ n. by_verdict (verdict h.request (value w.log n t.key))) (sym full) ∙ h.judged))
            (λ le. let e : w.frontier ≡ w.drawn = omega arith in judge_full z w.frontier _ h.request t.change (e ∙ full) (ap (λ n. by_verdict (verdict h.request (value w.log n t.key))) e ∙ h.judged))
            (let e : b' t.key ≡ z.capacity = changed_key-same g.settled t.key z.capacity in omega arith)
            (free_holds t.key h.held.holds)
            (changed_key_all (λ k n. g.settled k ≤ n) g.settled t.key z.capacity (let b = iv.bound t.key in omega arith) (λ k ne. omega arith))
            (λ k d ne e. changed_key-other g.settled t.key z.capacity k (λ x. ne (some_same (sym e ∙ ap (λ k. w.holder (shard z k)) x ∙ h.held.holds))))
            (changed_key_all (λ k n. n ≤ w.drawn) g.settled t.key z.capacity all (λ k ne. iv.bound k));
      }
    where
      b' : Key → ℕ
      b' = changed_key g.settled t.key z.capacity

-- A request that is continued while the store is quiet gets its reply; one that was only called, what the plain store replies.
use Rattle.std.proofs.Common.{◌≡◌, ◌≢◌, ◌<◌, ◌≤◌, ◌∷◌, [], ℕ, zero, suc, Bool, true, false, List, length, cond, Option, Some, None, is_some, nat_le, nat_lt, if◌then◌else◌, refl, sym, ap, ◌∙◌, subst, arith, ltb-false, ltb-true}
use Rattle.std.specs.FinMap as map
use Rattle.std.proofs.lemmas.List.FromFn.{length-range_with_len}
use Rattle.objects.specs.declared.key.Key.{Key}
use Rattle.objects.specs.declared.kind.Kind.{Kind}
use Rattle.requests.specs.declared.request.Request.{Request}
use Rattle.requests.specs.declared.reply.Reply.{Reply}
use Rattle.requests.specs.declared.reply.Reply.TheVariants.{Compacted, Listed, Refused, Unchanged}
use Rattle.requests.specs.declared.reply.Reason.{Reason}
use Rattle.requests.specs.declared.reply.Reason.TheVariants.{StoreFull}
use Rattle.requests.specs.declared.verdict.Verdict.{Verdict}
use Rattle.requests.specs.declared.verdict.Verdict.TheVariants.{Refuse, Same, Write}
use Rattle.requests.specs.Change.{Change}
use Rattle.requests.specs.Verdict.{verdict}
use Rattle.plain_store.specs.Route.{Route, compacts, gets, lists, lists_at, route, writes}
use Rattle.plain_store.specs.Store.{Objects, Store, collection, compacted_to, denied, listed_at, map_at}
use Rattle.plain_store.specs.Store as store
use Rattle.interleavings.specs.declared.event.Event.{Event}
use Rattle.interleavings.specs.declared.event.Event.TheVariants as event
use Rattle.interleavings.specs.Facts.{Facts}
use Rattle.interleavings.specs.Log.{Log, Writing, last_write, newer_number, state_at, value}
use Rattle.interleavings.specs.Step.{accepted_reply, all_shards, begun, begun_unless, checked, checked_by, checked_in, compacted, compacted_by, drawn_by, enters, enters_with, filled, floored, happens, judged, later, only, part, published, raised, read, read_at, read_at_by, read_by, replied, reserved, with_part, with_reply_if}
use Rattle.interleavings.specs.World.{Draw, Phase, Called, Holding, Drawn, Waiting, Reading, Size, World, changed, shard}
use Rattle.interleavings.proofs.Basics.{Compared, same, other, compare, Least, atmost, above, least, changed-same, changed-other, is_key_at}
use Rattle.interleavings.proofs.Facts.{facts_after}
use Rattle.interleavings.proofs.Plainly.{by_verdict, compacts_there, denied_none, denied_self, judge, judge_full, judge_moves, judge_stays, moves, moves_there, plainly, plainly_map_at, plainly_put, stays, stays_there, step_routed}
use Rattle.interleavings.proofs.Values.{value_put}
use Rattle.history.specs.NextStep.{can_rise, goes_on, next_step}
use Rattle.history.specs.declared.caller_phase.CallerPhase.TheVariants as standing
use Rattle.history.specs.CallerPhase.{first_step, caller_phase_of}
use Rattle.rounds.specs.Reconciler.{Reconciler}
use Rattle.cluster_runs.specs.Cluster.{Cluster, hand_if, is_used}
use Rattle.cluster_runs.specs.Turns.{carried_in}
use Rattle.quiet_runs.specs.Quiet.{IsQuiet, steps_of_a_request}
use Rattle.quiet_runs.proofs.Ends.{Ends, IsInner, OnWay, goes, now_of, replies, within}

-- ---- tests
at_most : (i j : ℕ) → i ≤ j → nat_le i j ≡ true
at_most i j le = go (least i j)
  where
    go : Least i j → nat_le i j ≡ true
    go (atmost l b) = b
    go (above l b) = absurd (omega (arith, le, l))

not_most : (i j : ℕ) → j < i → nat_le i j ≡ false
not_most i j lt = go (least i j)
  where
    go : Least i j → nat_le i j ≡ false
    go (atmost l b) = absurd (omega (arith, lt, l))
    go (above l b) = b

last_within : (log : Log) (n : ℕ) (k : Key) → last_write log n k ≤ n
last_within log zero k = omega arith
last_within log (suc n) k = by_record (log n) (last_within log n k)
  where
    by_key : (b : Bool) → last_write log n k ≤ n → cond b (suc n) (last_write log n k) ≤ suc n
    by_key true ih = omega arith
    by_key false ih = omega (arith, ih)

    by_record : (o : Option Writing) → last_write log n k ≤ n → newer_number o n k (last_write log n k) ≤ suc n
    by_record None ih = omega (arith, ih)
    by_record (Some t) ih = by_key (is_key_at k t.key) ih

freed : (holder : ℕ → Option ℕ) (i : ℕ) → ((s : ℕ) → s ≢ i → holder s ≡ None) → (s : ℕ) → changed holder i None s ≡ None
freed holder i held s = go (compare s i)
  where
    go : Compared s i → changed holder i None s ≡ None
    go (same e b) = ap (changed holder i None) e ∙ changed-same holder i None
    go (other ne b) = changed-other holder i None s ne ∙ held s ne

module _ (z : Size) (count : ℕ) (reconcilers : ℕ → Reconciler) (n : ℕ) (k0 : Cluster) (there : is_used k0 n ≡ true) (some : 0 < z.shards) where
  abbrev Way : Cluster → World → Type 0
  Way k w = OnWay z count reconcilers n k0 there k w

  abbrev Comes : (most : ℕ) → Store × Reply → (fuel : ℕ) → Cluster → Type 0
  Comes most end fuel k = Ends z count reconcilers n k0 there most end (carried_in fuel n) k

  facts : (k : Cluster) (w : World) → Way k w → Facts z w
  facts k w way = subst (Facts z) way.world (facts_after z some k.events)

  abbrev Inner : Event → Type 0
  Inner e = IsInner z count reconcilers n k0 there e

  -- the next step from the caller's phase
  next_at : (w : World) (ph : Phase) → w.phase n ≡ ph → next_step z w n ≡ goes_on (λ s. is_some (w.holder s)) w.frontier (can_rise w) n (caller_phase_of z.shards ph)
  next_at w ph at = ap (λ x. goes_on (λ s. is_some (w.holder s)) w.frontier (can_rise w) n (caller_phase_of z.shards x)) at

  apart : (w : World) (ph : Phase) (m : ℕ) → m ≢ n → changed w.phase n ph m ≡ w.phase m
  apart w ph m ne = changed-other w.phase n ph m ne

  checks : Inner (event.Check n)
  checks = record { silent = refl; handed = λ k u. ap (λ b. hand_if b k (event.Check n)) u }

  reserves : Inner (event.Reserve n)
  reserves = record { silent = refl; handed = λ k u. ap (λ b. hand_if b k (event.Reserve n)) u }

  publishes : Inner (event.Publish n)
  publishes = record { silent = refl; handed = λ k u. ap (λ b. hand_if b k (event.Publish n)) u }

  raises : Inner event.Raise
  raises = record { silent = refl; handed = λ k u. refl }

  reads : Inner (event.Read n)
  reads = record { silent = refl; handed = λ k u. ap (λ b. hand_if b k (event.Read n)) u }

  reads_at : Inner (event.ReadAt n)
  reads_at = record { silent = refl; handed = λ k u. ap (λ b. hand_if b k (event.ReadAt n)) u }

  compacting : Inner (event.Compact n)
  compacting = record { silent = refl; handed = λ k u. ap (λ b. hand_if b k (event.Compact n)) u }

  parts_on : Inner (event.Part n)
  parts_on = record { silent = refl; handed = λ k u. ap (λ b. hand_if b k (event.Part n)) u }

  -- ---- a caller that waits for what is passed
  pub waits : (fuel : ℕ) (k : Cluster) (w : World) (saw p : ℕ) (reply : Reply) → Way k w → IsQuiet w → w.phase n ≡ Waiting saw p reply → saw ≤ w.frontier → Comes 1 (now_of z w, reply) (suc fuel) k
  waits fuel k w saw p reply way quiet at le =
      replies z count reconcilers n k0 there fuel k w reply way quiet
      (next_at w (Waiting saw p reply) at ∙ ap (λ b. if b then Some (event.Reply n) else if can_rise w then Some event.Raise else None) (at_most saw w.frontier le))
      (ap (replied z w n) at ∙ ap (λ b. with_reply_if b w n reply) (at_most saw w.frontier le))

  -- ---- one that reads
  pub reads_on : (parts : List ℕ) (fuel : ℕ) (k : Cluster) (w : World) (number p : ℕ) (q : Request) (found : Objects) → Way k w → IsQuiet w
      → w.phase n ≡ Reading number p q parts found → length parts < fuel
      → Comes (suc (length parts)) (now_of z w, (store.step (only z number (state_at w.log number)) q).1) fuel k
  reads_on parts zero k w number p q found way quiet at few = absurd (omega (arith, few))
  reads_on [] (suc fuel) k w number p q found way quiet at few =
      subst (λ r. Comes 1 (now_of z w, r) (suc fuel) k) ((facts k w way).answer n number p q found at)
      (replies z count reconcilers n k0 there fuel k w (store.step (only z number found) q).1 way quiet (next_at w (Reading number p q [] found) at) (ap (replied z w n) at))
  reads_on (s ∷ parts) (suc fuel) k w number p q found way quiet at few =
      let ph : Phase = Reading number p q parts (with_part z w.log number q s found) in
      goes z count reconcilers n k0 there fuel (suc (length parts)) (now_of z w, (store.step (only z number (state_at w.log number)) q).1) k w (enters w n ph) (event.Part n) way (next_at w (Reading number p q (s ∷ parts) found) at) parts_on (ap (part z w n) at)
      (apart w ph) refl
      (λ j on. reads_on parts fuel j (later (enters w n ph)) number p q (with_part z w.log number q s found) on (record { free = quiet.free; passed = quiet.passed })
      (changed-same w.phase n ph) (omega (arith, few)))

  -- ---- a write that is accepted: the frontier passes its number
  passes : (fuel : ℕ) (k : Cluster) (w : World) (t : Writing) (p : ℕ) (reply : Reply) → Way k w → ((s : ℕ) → w.holder s ≡ None) → w.log w.frontier ≡ Some t → suc w.frontier ≡ w.drawn
      → w.phase n ≡ Waiting (suc w.frontier) p reply → Comes 2 (plainly z w.log w.floor (suc w.frontier), reply) (suc (suc fuel)) k
  passes fuel k w t p reply way free is up at =
      goes z count reconcilers n k0 there (suc fuel) 1 (plainly z w.log w.floor (suc w.frontier), reply) k w (record w { frontier = suc w.frontier }) event.Raise way
      (next_at w (Waiting (suc w.frontier) p reply) at
      ∙ ap (λ b. if b then Some (event.Reply n) else if can_rise w then Some event.Raise else None) (not_most (suc w.frontier) w.frontier (omega arith))
      ∙ ap (λ o. if is_some o then Some event.Raise else None) is)
      raises (ap (raised w) is) (λ m ne. refl) refl
      (λ j on. waits fuel j (later (record w { frontier = suc w.frontier })) (suc w.frontier) p reply on (record { free = free; passed = up }) at (omega arith))

  -- what the store is with the write of this index, and the reply to it
  abbrev drawn_end : World → Draw → Store × Reply
  drawn_end w d = (plainly z (changed w.log d.index (Some d.writing)) w.floor (suc w.frontier), accepted_reply d.writing.change (suc d.index))

  draws : (fuel : ℕ) (k : Cluster) (w : World) (d : Draw) → Way k w → w.phase n ≡ Drawn d → d.index ≡ w.frontier → suc w.frontier ≡ w.drawn
      → ((s : ℕ) → s ≢ shard z d.writing.key → w.holder s ≡ None) → Comes 3 (drawn_end w d) (suc (suc (suc fuel))) k
  draws fuel k w d way at is up held =
      let t : Writing = d.writing in
      let ph : Phase = Waiting (suc d.index) t.place (accepted_reply t.change (suc d.index)) in
      let v : World = filled z w n d ph in
      goes z count reconcilers n k0 there (suc (suc fuel)) 2 (drawn_end w d) k w v (event.Publish n) way (next_at w (Drawn d) at) publishes (ap (published z w n) at) (apart w ph) refl
      (λ j on. passes fuel j (later v) t t.place (accepted_reply t.change (suc d.index)) on (freed w.holder (shard z t.key) held)
      (ap (changed w.log d.index (Some t)) (sym is) ∙ changed-same w.log d.index (Some t)) up
      (changed-same w.phase n ph ∙ ap (λ i. Waiting (suc i) t.place (accepted_reply t.change (suc d.index))) is))

  -- ---- what the plain store does with a write
  module _ (k : Cluster) (w : World) (way : Way k w) (all_passed : w.frontier ≡ w.drawn) (q : Key) (r : Request) (routed : route r ≡ writes q) where
    judged_now : (v : Verdict) → verdict r (value w.log w.drawn q) ≡ v → by_verdict (verdict r (value w.log w.frontier q)) ≡ by_verdict v
    judged_now v is = ap (λ i. by_verdict (verdict r (value w.log i q))) all_passed ∙ ap by_verdict is

    stays_plain : (v : Verdict) (reply : Reply) → verdict r (value w.log w.drawn q) ≡ v → by_verdict v ≡ stays reply → store.step (now_of z w) r ≡ (now_of z w, reply)
    stays_plain v reply is judged = stays_there z w.log w.floor w.frontier q r reply routed (judge_stays z w.frontier (value w.log w.frontier q) r reply (judged_now v is ∙ judged))

    full_plain : (change : Change) → verdict r (value w.log w.drawn q) ≡ Write change → z.capacity ≤ w.drawn → store.step (now_of z w) r ≡ (now_of z w, Refused StoreFull)
    full_plain change is full =
        let room = (facts k w way).room in
        let at_end : w.frontier ≡ z.capacity = omega (arith, all_passed, full, room) in
        stays_there z w.log w.floor w.frontier q r (Refused StoreFull) routed (judge_full z w.frontier (value w.log w.frontier q) r change at_end (judged_now (Write change) is))

    writes_plain : (p : ℕ) (change : Change) → verdict r (value w.log w.drawn q) ≡ Write change → w.drawn < z.capacity
        → store.step (now_of z w) r ≡ drawn_end w (record { index = w.drawn; writing = record { place = p; key = q; change = change } })
    writes_plain p change is room =
        let t : Writing = record { place = p; key = q; change = change } in
        let i : ℕ = w.drawn in
        let log : Log = changed w.log i (Some t) in
        let known = facts k w way in
        let low : w.floor ≤ w.frontier = known.standing in
        let here : log w.frontier ≡ Some t = ap log all_passed ∙ changed-same w.log i (Some t) in
        let before : value log w.frontier q ≡ value w.log w.frontier q = value_put w.log i t (known.above i (omega arith)) w.frontier q (λ same. omega (arith, all_passed)) in
        let judged : judge z w.frontier (value log w.frontier q) r ≡ moves change =
        ap (λ o. judge z w.frontier o r) before ∙ judge_moves z w.frontier (value w.log w.frontier q) r change (omega (arith, all_passed, room)) (judged_now (Write change) is) in
        ap (λ x. store.step x r) (sym (plainly_put z w.log i (Some t) w.floor w.frontier low (omega (arith, all_passed))))
        ∙ moves_there z log w.floor w.frontier t r low here routed judged
        ∙ ap (λ m. let end : Store × Reply = (plainly z log w.floor (suc w.frontier), accepted_reply change (suc m)) in end) all_passed

  holds : (fuel : ℕ) (k : Cluster) (w : World) (p : ℕ) (q : Key) (change : Change) (end : Store × Reply) → Way k w → w.phase n ≡ Holding (record { place = p; key = q; change = change })
      → w.frontier ≡ w.drawn → ((s : ℕ) → s ≢ shard z q → w.holder s ≡ None)
      → (w.drawn < z.capacity → end ≡ drawn_end w (record { index = w.drawn; writing = record { place = p; key = q; change = change } }))
      → (z.capacity ≤ w.drawn → end ≡ (now_of z w, Refused StoreFull)) → Comes 4 end (suc (suc (suc (suc fuel)))) k
  holds fuel k w p q change end way at passed held fits full = go (nat_lt w.drawn z.capacity) refl
    where
      t : Writing
      t = record { place = p; key = q; change = change }

      next : next_step z w n ≡ Some (event.Reserve n)
      next = next_at w (Holding t) at

      go : (b : Bool) → nat_lt w.drawn z.capacity ≡ b → Comes 4 end (suc (suc (suc (suc fuel)))) k
      go true is =
          let d : Draw = record { index = w.drawn; writing = t } in
          let v : World = record w { drawn = suc w.drawn; phase = changed w.phase n (Drawn d) } in
          subst (λ x. Comes 4 x (suc (suc (suc (suc fuel)))) k) (sym (fits (ltb-true w.drawn z.capacity is)))
          (goes z count reconcilers n k0 there (suc (suc (suc fuel))) 3 (drawn_end w d) k w v (event.Reserve n) way next reserves (ap (reserved z w n) at ∙ ap (drawn_by z w n t) is) (apart w (Drawn d)) refl
          (λ j on. draws fuel j (later v) d on (changed-same w.phase n (Drawn d)) (sym passed) (ap suc passed) held))
      go false is =
          let ph : Phase = Waiting z.capacity t.place (Refused StoreFull) in
          let v : World = enters_with z w n t.key None ph in
          let high : z.capacity ≤ w.drawn = ltb-false w.drawn z.capacity is in
          subst (λ x. Comes 4 x (suc (suc (suc (suc fuel)))) k) (sym (full high))
          (goes z count reconcilers n k0 there (suc (suc (suc fuel))) 3 (now_of z w, Refused StoreFull) k w v (event.Reserve n) way next reserves (ap (reserved z w n) at ∙ ap (drawn_by z w n t) is) (apart w ph) refl
          (λ j on. within z count reconcilers n k0 there 1 3 (now_of z w, Refused StoreFull) (carried_in (suc (suc (suc fuel))) n) j (omega arith)
          (waits (suc (suc fuel)) j (later v) z.capacity t.place (Refused StoreFull) on (record { free = freed w.holder (shard z t.key) held; passed = passed })
          (changed-same w.phase n ph) (omega (arith, high, passed)))))

  -- ---- a request that is called
  module _ (fuel : ℕ) (enough : steps_of_a_request z ≤ fuel) (k : Cluster) (w : World) (p : ℕ) (r : Request) (way : Way k w) (quiet : IsQuiet w) (at : w.phase n ≡ Called p r) where
    abbrev ComesIn : Store × Reply → Type 0
    ComesIn end = Comes (steps_of_a_request z) end (suc (suc (suc (suc (suc fuel))))) k

    -- as the plain store replies
    abbrev ComesPlainly : Type 0
    ComesPlainly = ComesIn (store.step (now_of z w) r)

    -- it waits
    settles : (e : Event) (v : World) (saw : ℕ) (reply : Reply) → Inner e → next_step z w n ≡ Some e → happens z w e ≡ v → v ≡ enters w n (Waiting saw p reply) → saw ≤ w.frontier
        → store.step (now_of z w) r ≡ (now_of z w, reply) → ComesPlainly
    settles e v saw reply inner next is enters_is le plain =
        let ph : Phase = Waiting saw p reply in
        let end : Store × Reply = (now_of z w, reply) in
        subst ComesIn (sym plain)
        (within z count reconcilers n k0 there 2 (steps_of_a_request z) end (carried_in (suc (suc (suc (suc (suc fuel))))) n) k (omega arith)
        (goes z count reconcilers n k0 there (suc (suc (suc (suc fuel)))) 1 end k w (enters w n ph) e way next inner (is ∙ enters_is) (apart w ph) refl
        (λ j on. waits (suc (suc (suc fuel))) j (later (enters w n ph)) saw p reply on (record { free = quiet.free; passed = quiet.passed }) (changed-same w.phase n ph) le)))

    -- it reads
    begins : (e : Event) (number : ℕ) (parts : List ℕ) → Inner e → next_step z w n ≡ Some e → happens z w e ≡ begun w n number p r parts → suc (suc (length parts)) ≤ steps_of_a_request z
        → store.step (now_of z w) r ≡ (now_of z w, (store.step (only z number (state_at w.log number)) r).1) → ComesPlainly
    begins e number parts inner next is few plain =
        let ph : Phase = Reading number p r parts map.empty in
        let end : Store × Reply = (now_of z w, (store.step (only z number (state_at w.log number)) r).1) in
        subst ComesIn (sym plain)
        (within z count reconcilers n k0 there (suc (suc (length parts))) (steps_of_a_request z) end (carried_in (suc (suc (suc (suc (suc fuel))))) n) k few
        (goes z count reconcilers n k0 there (suc (suc (suc (suc fuel)))) (suc (length parts)) end k w (enters w n ph) e way next inner is (apart w ph) refl
        (λ j on. reads_on parts (suc (suc (suc (suc fuel)))) j (later (enters w n ph)) number p r map.empty on (record { free = quiet.free; passed = quiet.passed }) (changed-same w.phase n ph)
        (omega (arith, few, enough)))))

    every : suc (suc (length (all_shards z))) ≤ steps_of_a_request z
    every = let all = length-range_with_len 0 z.shards in omega (arith, all)

    by_write : (q : Key) → route r ≡ writes q → ComesPlainly
    unfolding shard
    by_write q is = go (verdict r (value w.log w.drawn q)) refl
      where
        free : w.holder (shard z q) ≡ None
        free = quiet.free (shard z q)

        next : next_step z w n ≡ Some (event.Check n)
        next =
            next_at w (Called p r) at ∙ ap (λ ro. goes_on (λ s. is_some (w.holder s)) w.frontier (can_rise w) n (standing.Called (first_step z.shards ro))) is
            ∙ ap (λ o. if is_some o then None else Some (event.Check n)) free

        judging : (d : Verdict) → verdict r (value w.log w.drawn q) ≡ d → happens z w (event.Check n) ≡ judged z w n p q d
        judging d ev = ap (checked z w n) at ∙ ap (checked_by z w n p r) is ∙ ap (checked_in z w n p r q) free ∙ ap (judged z w n p q) ev

        le : last_write w.log w.drawn q ≤ w.frontier
        le = let low = last_within w.log w.drawn q in let all = quiet.passed in omega (arith, low, all)

        stays_at : (d : Verdict) (reply : Reply) → verdict r (value w.log w.drawn q) ≡ d → by_verdict d ≡ stays reply → store.step (now_of z w) r ≡ (now_of z w, reply)
        stays_at d reply ev judged = stays_plain k w way quiet.passed q r is d reply ev judged

        go : (d : Verdict) → verdict r (value w.log w.drawn q) ≡ d → ComesPlainly
        go (Refuse reason) ev =
            settles (event.Check n) (judged z w n p q (Refuse reason)) (last_write w.log w.drawn q) (Refused reason) checks next (judging (Refuse reason) ev) refl le
            (stays_at (Refuse reason) (Refused reason) ev refl)
        go (Same x) ev =
            settles (event.Check n) (judged z w n p q (Same x)) (last_write w.log w.drawn q) (Unchanged x) checks next (judging (Same x) ev) refl le
            (stays_at (Same x) (Unchanged x) ev refl)
        go (Write change) ev =
            let t : Writing = record { place = p; key = q; change = change } in
            let v : World = enters_with z w n q (Some n) (Holding t) in
            let end : Store × Reply = store.step (now_of z w) r in
            within z count reconcilers n k0 there 5 (steps_of_a_request z) end (carried_in (suc (suc (suc (suc (suc fuel))))) n) k (omega arith)
            (goes z count reconcilers n k0 there (suc (suc (suc (suc fuel)))) 4 end k w v (event.Check n) way next checks (judging (Write change) ev) (apart w (Holding t)) refl
            (λ j on. holds fuel j (later v) p q change end on (changed-same w.phase n (Holding t)) quiet.passed (λ s ne. changed-other w.holder (shard z q) (Some n) s ne ∙ quiet.free s)
            (writes_plain k w way quiet.passed q r is p change ev) (full_plain k w way quiet.passed q r is change ev)))

    by_compaction : (to : ℕ) → route r ≡ compacts to → next_step z w n ≡ Some (event.Compact n) → (o : Option Reason) → denied w.floor w.frontier to ≡ o → ComesPlainly
    by_compaction to is next (Some reason) ed =
        settles (event.Compact n) (floored w n p to (Some reason)) 0 (Refused reason) compacting next (ap (compacted w n) at ∙ ap (compacted_by w n p) is ∙ ap (floored w n p to) ed) refl (omega arith)
        (step_routed (now_of z w) r (compacts to) is ∙ ap (compacted_to (now_of z w) to) ed)
    by_compaction to is next None ed =
        let ph : Phase = Waiting 0 p (Compacted to) in
        let v : World = floored w n p to None in
        let end : Store × Reply = (plainly z w.log to w.frontier, Compacted to) in
        subst ComesIn (sym (compacts_there z w.log w.floor w.frontier to r is ed))
        (within z count reconcilers n k0 there 2 (steps_of_a_request z) end (carried_in (suc (suc (suc (suc (suc fuel))))) n) k (omega arith)
        (goes z count reconcilers n k0 there (suc (suc (suc (suc fuel)))) 1 end k w v (event.Compact n) way next compacting
        (ap (compacted w n) at ∙ ap (compacted_by w n p) is ∙ ap (floored w n p to) ed) (apart w ph) refl
        (λ j on. waits (suc (suc (suc fuel))) j (later v) 0 p (Compacted to) on (record { free = quiet.free; passed = quiet.passed }) (changed-same w.phase n ph) (omega arith))))

    by_list_at : (kind : Kind) (namespace : List ℕ) (number : ℕ) → route r ≡ lists_at kind namespace number → next_step z w n ≡ Some (event.ReadAt n) → (o : Option Reason)
        → denied w.floor w.frontier number ≡ o → happens z w (event.ReadAt n) ≡ begun_unless z w n p r number (denied w.floor w.frontier number) → ComesPlainly
    by_list_at kind namespace number routed next (Some reason) ed is =
        settles (event.ReadAt n) (begun_unless z w n p r number (Some reason)) 0 (Refused reason) reads_at next (is ∙ ap (begun_unless z w n p r number) ed) refl (omega arith)
        (step_routed (now_of z w) r (lists_at kind namespace number) routed
        ∙ ap (λ o. let x : Store × Reply = (now_of z w, listed_at number (collection (map_at (now_of z w) number) kind namespace) o) in x) ed)
    by_list_at kind namespace number routed next None ed is =
        let allowed = denied_none w.floor w.frontier number ed in
        let alone : Store = only z number (state_at w.log number) in
        begins (event.ReadAt n) number (all_shards z) reads_at next (is ∙ ap (begun_unless z w n p r number) ed) every
        (step_routed (now_of z w) r (lists_at kind namespace number) routed
        ∙ ap (λ a. let x : Store × Reply = (now_of z w, a) in x)
        (ap (listed_at number (collection (map_at (now_of z w) number) kind namespace)) ed
        ∙ ap (λ m. Listed (collection m kind namespace) number) (plainly_map_at z w.log w.floor w.frontier number allowed.0 allowed.1)
        ∙ sym (ap (λ (x : Store × Reply). x.1) (step_routed alone r (lists_at kind namespace number) routed) ∙ ap (listed_at number (collection (state_at w.log number) kind namespace)) (denied_self number))))

    next_by : (ro : Route) → route r ≡ ro → next_step z w n ≡ goes_on (λ s. is_some (w.holder s)) w.frontier (can_rise w) n (standing.Called (first_step z.shards ro))
    next_by ro is = next_at w (Called p r) at ∙ ap (λ ro. goes_on (λ s. is_some (w.holder s)) w.frontier (can_rise w) n (standing.Called (first_step z.shards ro))) is

    abbrev only_now : Store
    only_now = only z w.frontier (state_at w.log w.frontier)

    pub by_route : (ro : Route) → route r ≡ ro → ComesPlainly
    by_route (writes q) is = by_write q is
    by_route (gets q) is =
        begins (event.Read n) w.frontier (shard z q ∷ []) reads (next_by (gets q) is) (ap (read z w n) at ∙ ap (read_by z w n p r) is) (omega arith)
        (step_routed (now_of z w) r (gets q) is ∙ ap (λ a. let x : Store × Reply = (now_of z w, a) in x) (sym (ap (λ (x : Store × Reply). x.1) (step_routed only_now r (gets q) is))))
    by_route (lists kind namespace) is =
        begins (event.Read n) w.frontier (all_shards z) reads (next_by (lists kind namespace) is) (ap (read z w n) at ∙ ap (read_by z w n p r) is) every
        (step_routed (now_of z w) r (lists kind namespace) is ∙ ap (λ a. let x : Store × Reply = (now_of z w, a) in x) (sym (ap (λ (x : Store × Reply). x.1) (step_routed only_now r (lists kind namespace) is))))
    by_route (lists_at kind namespace number) is =
        by_list_at kind namespace number is (next_by (lists_at kind namespace number) is) (denied w.floor w.frontier number) refl (ap (read_at z w n) at ∙ ap (read_at_by z w n p r) is)
    by_route (compacts to) is = by_compaction to is (next_by (compacts to) is) (denied w.floor w.frontier to) refl

-- Each step keeps the log of notes: lemmas over lists of views with notes, which use those over plain views.
use Rattle.std.proofs.Common.{replicate, ◌≡◌, ◌≢◌, ◌⊎◌, ℕ, zero, suc, ◌+◌, ◌<◌, ◌≤◌, List, [], ◌∷◌, ◌++◌, length, map, take, drop, set, false, true≢false, Option, Some, None, refl, sym, ap, ◌∙◌, subst, ⊎_elim, inl, inr, arith, le_refl, append_assoc, length-append, get_or-set_other, get_or-set_same}
use Rattle.std.proofs.lemmas.List.{get_or-replicate, map-set, take-append-drop, length-take-le}
use mathlib.Core.List.{IsPrefix, map-append}
use mathlib.Core.Option.{some, some-injective, some-ne-none}
use lib.ListN.{get_elem?}
use Rattle.atomic_table.proofs.Lists.{at_set, at_snoc, set_again, at_map, at_longer}
use Rattle.line.specs.declared.view.View.{View}
use Rattle.line.specs.declared.view.NotedView.{NotedView}
use Rattle.line.specs.View.{seats_of}
use Rattle.line.specs.Rule.{count_of, frontier_of, drawn_of, Fits, Rule}
use Rattle.line.specs.Notes.{name_of, notes_of, notes_up_to, observation, IsLegal}
use Rattle.line.specs.NotedRule.{IsApart, AreCutOff, AreBelow, IsTrueOf, NotedRule, IsTrueObservation, zero_if, plain_of, shard_of, caller_of, cutter_of}
use Rattle.line.specs.NotedSteps.{Matches, IsObserved}
use Rattle.line.specs.NotedView.{drew_noted, with_plain, observed, named, first_noted, cut_off, shard_noted, caller_noted, entered, left_over, stayed, left_with, told, made_after}
use Rattle.line.proofs.Sums.{sum_by-set}
use Rattle.line.proofs.Keeping.{begins, frontier_drawn, arrives, stays, draws}
use Rattle.line.proofs.Fronts.{prefix_shorter}
use Rattle.line.proofs.Logs.{some_ne, no_some, some_same, notes_of_here, notes_of_else, notes_of_none, notes_up_to_front, notes_up_to_whole, right_on, observation_reads, legal_on, legal_front, apart_set, apart_snoc}

module _ {E : Type 0} (home by : E → ℕ) (accepts : List (ℕ × E) → E → Type 0) (capacity : ℕ) where
  abbrev kept : List ℕ → List (NotedView E) → Type 0
  kept = NotedRule home by accepts capacity

  module _ (ws : List ℕ) (vs : List (NotedView E)) (r : NotedRule home by accepts capacity ws vs) (id : ℕ) (v : NotedView E) (at : get_elem? vs id ≡ some v) where
    plains : (w : NotedView E) (ws' : List ℕ) → Rule capacity ws' (set (map plain_of vs) id w.plain) → Rule capacity ws' (map plain_of (set vs id w))
    plains w ws' = subst (Rule capacity ws') (sym (map-set plain_of vs id w))

    pub plain_at : get_elem? (map plain_of vs) id ≡ some v.plain
    plain_at = at_map plain_of vs id v at

    pub fits_at : Fits capacity ws v.plain
    fits_at = (r.kept).each_seat id v.plain plain_at

    -- what holds of each seat holds of each after a change of one
    each_of : (P : NotedView E → Type 0) (w : NotedView E) → P w → ((j : ℕ) (x : NotedView E) → j ≢ id → get_elem? vs j ≡ some x → P x) → (j : ℕ) (x : NotedView E) → get_elem? (set vs id w) j ≡ some x → P x
    each_of P w mine others j x ex = ⊎_elim
        (λ (t : (j ≡ id) × (w ≡ x)). subst P t.1 mine)
        (λ (t : (j ≢ id) × (get_elem? vs j ≡ some x)). others j x t.0 t.1)
        (at_set vs id j w x ex)

    below_set : (w : NotedView E) (log : List E) (most : ℕ) → AreBelow by most log vs → ((c : ℕ) → w.caller ≡ Some c → (0 < c) × (c < most)) → AreBelow by most log (set vs id w)
    below_set w log most b mine = record {
      first = b.first;
      noted = b.noted;
      named = λ j c x ex. each_of (λ y. y.caller ≡ Some c → (0 < c) × (c < most)) w (mine c) (λ k y ne ey. b.named k c y ey) j x ex;
    }

    made_set : (w : NotedView E) (log : List E) (count : ℕ) → AreCutOff home count log vs → ((i : ℕ) → w.shard ≡ Some i → v.shard ≡ Some i) → ((m : ℕ) → w.made ≡ Some m → v.made ≡ Some m) → AreCutOff home count log (set vs id w)
    made_set w log count m shard made = record {
      noted = m.noted;
      seats = λ j i x ex. each_of (λ y. y.shard ≡ Some i → i < count) w (λ e. m.seats id i v at (shard i e)) (λ k y ne ey. m.seats k i y ey) j x ex;
      cutter = λ j n x ex. each_of (λ y. y.made ≡ Some n → n ≡ count) w (λ e. m.cutter id n v at (made n e)) (λ k y ne ey. m.cutter k n y ey) j x ex;
    }

    zero_of : (w : NotedView E) → ((m : ℕ) → w.made ≡ Some m → v.made ≡ Some m) → (i : ℕ) → cutter_of w ≡ Some i → cutter_of v ≡ Some i
    zero_of w made i is = by_case w.made made is
      where
        by_case : (o : Option ℕ) → ((m : ℕ) → o ≡ Some m → v.made ≡ Some m) → zero_if o ≡ Some i → cutter_of v ≡ Some i
        by_case None h e = absurd (no_some i e)
        by_case (Some m) h e = ap zero_if (h m refl) ∙ e

    -- a step that adds no note
    pub log_stays : (ws' : List ℕ) (w : NotedView E) → Rule capacity ws' (set (map plain_of vs) id w.plain) → drawn_of capacity ws' ≡ drawn_of capacity ws → frontier_of ws ≤ frontier_of ws'
        → ((i : ℕ) → w.shard ≡ Some i → v.shard ≡ Some i) → ((c : ℕ) → w.caller ≡ Some c → v.caller ≡ Some c) → ((m : ℕ) → w.made ≡ Some m → v.made ≡ Some m)
        → IsTrueOf home by r.log w → IsPrefix w.reported r.log × (length w.reported ≤ frontier_of ws') → NotedRule home by accepts capacity ws' (set vs id w)
    log_stays ws' w rule same further shard caller made knows reported = record {
      log = r.log;
      kept = plains w ws' rule;
      long = r.long ∙ sym same;
      each = each_of (IsTrueOf home by r.log) w knows (λ k y ne ey. r.each k y ey);
      reported = each_of (λ y. IsPrefix y.reported r.log × (length y.reported ≤ frontier_of ws')) w reported (λ k y ne ey. let h = r.reported k y ey in let l = h.1 in (h.0, omega arith));
      legal = r.legal;
      most = r.most;
      below = below_set w r.log r.most r.below (λ c e. (r.below).named id c v at (caller c e));
      count = r.count;
      made = made_set w r.log r.count r.made shard made;
      shards = apart_set shard_of vs id v w at shard r.shards;
      callers = apart_set caller_of vs id v w at caller r.callers;
      cutters = apart_set cutter_of vs id v w at (zero_of w made) r.cutters;
    }

    -- a number is drawn for a note
    pub draw_keeps : (e : E) → v.plain.pending ≡ None → v.shard ≡ Some (home e) → by e ≡ name_of v.caller → accepts v.notes e → count_of ws < capacity
        → NotedRule home by accepts capacity (set ws 1 (count_of ws + 1)) (set vs id (drew_noted v (count_of ws + 1) e))
    draw_keeps e no_open at_home is_by ok room =
        let k : ℕ = count_of ws + 1 in
        let w : NotedView E = drew_noted v k e in
        let log = r.log in
        let now : List E = log ++ e ∷ [] in
        let wide = (r.kept).width in
        let here : count_of (set ws 1 k) ≡ k = get_or-set_same ws 1 k 0 (omega arith) in
        let front : frontier_of (set ws 1 k) ≡ frontier_of ws = get_or-set_other ws 1 0 k 0 (λ e. omega arith) in
        let long = r.long in
        let size : length now ≡ length log + 1 = length-append log (e ∷ []) in
        let number : 1 + length log ≡ k = omega arith in
        let further : (xs : List E) → IsPrefix xs log → IsPrefix xs now = λ xs p. (p.0 ++ e ∷ [], sym (append_assoc xs p.0 (e ∷ [])) ∙ ap (λ l. l ++ e ∷ []) p.1) in
        let old = r.each id v at in
        let mine_is : (c : ℕ) → v.caller ≡ Some c → by e ≡ c = λ c is. is_by ∙ ap name_of is in
        let others : (j : ℕ) (x : NotedView E) (c : ℕ) → j ≢ id → get_elem? vs j ≡ some x → x.caller ≡ Some c → by e ≢ c = λ j x c ne ex is same. other_caller j x c ne ex is (is_by) same in
        record {
          log = now;
          kept = plains w (set ws 1 k) (draws capacity ws (map plain_of vs) r.kept id v.plain plain_at no_open room);
          long = omega arith;
          each = each_of (IsTrueOf home by now) w
              record {
                of_shard = λ i is. let me : home e ≡ i = some_same (home e) i (sym at_home ∙ is) in
                    ap (λ l. l ++ (k, e) ∷ []) (old.of_shard i is) ∙ (ap (λ n. notes_of home i 1 log ++ (n, e) ∷ []) (sym number) ∙ sym (notes_of_here home i 1 log e me));
                of_caller = λ c is.
                    ap (λ l. l ++ (k, e) ∷ []) (old.of_caller c is) ∙ (ap (λ n. notes_of by c 1 log ++ (n, e) ∷ []) (sym number) ∙ sym (notes_of_here by c 1 log e (mine_is c is)));
                seen = further v.seen old.seen;
                long = old.long;
                observations = λ n c q. right_on home log e c (old.observations n c q);
              }
              (λ j x ne ex. let was = r.each j x ex in record {
                of_shard = λ i is. was.of_shard i is ∙ sym (notes_of_else home i 1 log e (λ same. ne (r.shards j id i x v ex at is (at_home ∙ ap Some same))));
                of_caller = λ c is. was.of_caller c is ∙ sym (notes_of_else by c 1 log e (others j x c ne ex is));
                seen = further x.seen was.seen;
                long = was.long;
                observations = λ n c q. right_on home log e c (was.observations n c q);
              });
          reported = each_of (λ y. IsPrefix y.reported now × (length y.reported ≤ frontier_of (set ws 1 k))) w (let h = r.reported id v at in let l = h.1 in (further v.reported h.0, omega arith)) (λ j y ne ey. let h = r.reported j y ey in let l = h.1 in (further y.reported h.0, omega arith));
          legal = legal_on home accepts log e r.legal (subst (λ k. accepts k e) (old.of_shard (home e) at_home) ok);
          most = r.most;
          below = below_set w now r.most record { first = (r.below).first; noted = λ n x q. ⊎_elim (λ t. (r.below).noted n x t) (λ (t : e ≡ x). subst (λ z. by z < r.most) t (small v.caller is_by (λ c is. (r.below).named id c v at is))) (at_snoc log e x n q); named = (r.below).named } (λ c is. (r.below).named id c v at is);
          count = r.count;
          made = made_set w now r.count record { noted = λ n x q. ⊎_elim (λ t. (r.made).noted n x t) (λ (t : e ≡ x). subst (λ z. home z < r.count) t ((r.made).seats id (home e) v at at_home)) (at_snoc log e x n q); seats = (r.made).seats; cutter = (r.made).cutter } (λ i e. e) (λ m e. e);
          shards = apart_set shard_of vs id v w at (λ i e. e) r.shards;
          callers = apart_set caller_of vs id v w at (λ i e. e) r.callers;
          cutters = apart_set cutter_of vs id v w at (λ i e. e) r.cutters;
        }
      where
        small : (o : Option ℕ) → by e ≡ name_of o → ((c : ℕ) → o ≡ Some c → (0 < c) × (c < r.most)) → by e < r.most
        small None is h = let f = (r.below).first in omega arith
        small (Some c) is h = let l = (h c refl).1 in omega arith

        other_caller : (j : ℕ) (x : NotedView E) (c : ℕ) → j ≢ id → get_elem? vs j ≡ some x → x.caller ≡ Some c → by e ≡ name_of v.caller → by e ≡ c → ⊥
        other_caller j x c ne ex is is_by' same = by_case v.caller refl
          where
            by_case : (o : Option ℕ) → v.caller ≡ o → ⊥
            by_case None q = let z : by e ≡ 0 = is_by' ∙ ap name_of q in let pos = ((r.below).named j c x ex is).0 in omega arith
            by_case (Some d) q = let z : by e ≡ d = is_by' ∙ ap name_of q in ne (r.callers j id c x v ex at is (q ∙ ap Some (sym z ∙ same)))

    -- the notes up to a frontier that was reached are seen
    module _ (ws' : List ℕ) (same : drawn_of capacity ws' ≡ drawn_of capacity ws) (further : frontier_of ws ≤ frontier_of ws') (drawn : frontier_of ws' ≤ drawn_of capacity ws') where
      abbrev pub front_seen : List E
      front_seen = take (frontier_of ws') r.log

      front_long : length front_seen ≡ frontier_of ws'
      front_long = let long = r.long in length-take-le (frontier_of ws') r.log (omega arith)

      front_whole : front_seen ++ drop (frontier_of ws') r.log ≡ r.log
      front_whole = take-append-drop (frontier_of ws') r.log

      pub sees_front : Matches home by accepts v (frontier_of ws') front_seen
      sees_front =
          let f : ℕ = frontier_of ws' in
          let log = r.log in
          let old = r.each id v at in
          let seen = (fits_at).seen in
          let old_long = old.long in
          let size = front_long in
          let reported = r.reported id v at in
          let reported_le = reported.1 in
          let reads : (g : E → ℕ) (i : ℕ) → notes_up_to f (notes_of g i 1 log) ≡ notes_of g i 1 front_seen = λ g i. ap (λ l. notes_up_to f (notes_of g i 1 l)) (sym front_whole) ∙ notes_up_to_front g i f 1 front_seen (drop f log) (omega arith) in
          record {
            more = prefix_shorter v.seen front_seen log old.seen (drop f log, front_whole) (omega arith);
            reported = prefix_shorter v.reported front_seen log reported.0 (drop f log, front_whole) (omega arith);
            long = size;
            legal = legal_front home accepts front_seen (drop f log) log front_whole r.legal;
            of_shard = λ i is. ap (notes_up_to f) (old.of_shard i is) ∙ reads home i;
            of_caller = λ c is. ap (notes_up_to f) (old.of_caller c is) ∙ reads by c;
            observations = λ k m c q l l'. observation_reads home log front_seen (drop f log) front_whole c (old.observations k c q) m l (omega arith);
          }

      pub seen_keeps : (w : View) → w.seen ≡ frontier_of ws' → Rule capacity ws' (set (map plain_of vs) id w) → NotedRule home by accepts capacity ws' (set vs id (record v { plain = w; seen = front_seen }))
      seen_keeps w is rule =
          let old = r.each id v at in
          let reported = r.reported id v at in
          let reported_le = reported.1 in
          log_stays ws' (record v { plain = w; seen = front_seen }) rule same further (λ i e. e) (λ c e. e) (λ m e. e)
          record { of_shard = old.of_shard; of_caller = old.of_caller; seen = (drop (frontier_of ws') r.log, front_whole); long = front_long ∙ sym is; observations = old.observations } (reported.0, omega arith)

    -- a step that changes the plain view, and not what it has seen
    pub plain_keeps : (ws' : List ℕ) (w : View) → w.seen ≡ v.plain.seen → Rule capacity ws' (set (map plain_of vs) id w) → drawn_of capacity ws' ≡ drawn_of capacity ws → frontier_of ws ≤ frontier_of ws' → NotedRule home by accepts capacity ws' (set vs id (with_plain v w))
    plain_keeps ws' w is rule same further =
        let old = r.each id v at in
        let reported = r.reported id v at in
        let reported_le = reported.1 in
        log_stays ws' (with_plain v w) rule same further (λ i e. e) (λ c e. e) (λ m e. e)
        record { of_shard = old.of_shard; of_caller = old.of_caller; seen = old.seen; long = old.long ∙ sym is; observations = old.observations } (reported.0, omega arith)

    -- what a shard has is observed
    pub observe_keeps : (floor i : ℕ) → v.shard ≡ Some i → 0 < v.plain.capacity → (d : ℕ) × IsObserved home by accepts v i d × NotedRule home by accepts capacity ws (set vs id (observed v i d floor))
    observe_keeps floor i is live =
        let d : ℕ = drawn_of capacity ws in
        let log = r.log in
        let long = r.long in
        let old = r.each id v at in
        let fits = fits_at in
        let knows = fits.knows live in
        let seen = fits.seen in
        let seen_long = old.long in
        let drawn = frontier_drawn capacity ws (map plain_of vs) r.kept in
        let whole : take d log ≡ log = take_all d log (omega arith) in
        let rest = old.seen in (
          d,
          record {
            within = omega arith;
            seen = omega arith;
            all = ap (notes_up_to d) (old.of_shard i is) ∙ (ap (λ n. notes_up_to n (notes_of home i 1 log)) (sym long) ∙ (notes_up_to_whole home i log ∙ sym (old.of_shard i is)));
            spent = λ s. let f = (fits.spent s).0 in omega arith;
            legal = legal_front home accepts v.seen rest.0 log rest.1 r.legal;
            of_shard = ap (notes_up_to (length v.seen)) (old.of_shard i is) ∙ (ap (λ l. notes_up_to (length v.seen) (notes_of home i 1 l)) (sym rest.1) ∙ notes_up_to_front home i (length v.seen) 1 v.seen rest.0 (omega arith));
            of_caller = λ c is. ap (notes_up_to (length v.seen)) (old.of_caller c is) ∙ (ap (λ l. notes_up_to (length v.seen) (notes_of by c 1 l)) (sym rest.1) ∙ notes_up_to_front by c (length v.seen) 1 v.seen rest.0 (omega arith));
            long = old.long;
          },
          log_stays ws (observed v i d floor) (subst (Rule capacity ws) (sym (set_again (map plain_of vs) id v.plain plain_at)) r.kept) refl (le_refl (frontier_of ws)) (λ i e. e) (λ c e. e) (λ m e. e)
              record { of_shard = old.of_shard; of_caller = old.of_caller; seen = old.seen; long = old.long; observations = λ n c q. ⊎_elim (λ t. old.observations n c t) (λ (t : observation i d v.notes floor ≡ c). subst (IsTrueObservation home log) t (omega arith, old.of_shard i is ∙ ap (notes_of home i 1) (sym whole))) (at_snoc v.observations (observation i d v.notes floor) c n q) } (r.reported id v at),
        )
      where
        take_all : (n : ℕ) (xs : List E) → length xs ≤ n → take n xs ≡ xs
        take_all zero [] le = refl
        take_all (suc n) [] le = refl
        take_all zero (x ∷ xs) le = absurd (omega arith)
        take_all (suc n) (x ∷ xs) le = ap (λ l. x ∷ l) (take_all n xs (omega arith))

    -- its caller gets a name
    pub name_tells : IsLegal home accepts v.seen × (notes_of by r.most 1 v.seen ≡ []) × (length v.seen ≡ v.plain.seen)
    name_tells =
        let old = r.each id v at in
        let rest = old.seen in (
          legal_front home accepts v.seen rest.0 r.log rest.1 r.legal,
          notes_of_none by r.most 1 v.seen (λ k e q same. let b = (r.below).noted k e (subst (λ l. get_elem? l k ≡ some e) rest.1 (at_longer v.seen rest.0 k e q)) in omega arith),
          old.long,
        )

    pub name_keeps : v.caller ≡ None → NotedRule home by accepts capacity ws (set vs id (named v r.most))
    name_keeps alone =
        let log = r.log in
        let w : NotedView E = named v r.most in
        let old = r.each id v at in
        let first = (r.below).first in
        record {
          log = log;
          kept = plains w ws (subst (Rule capacity ws) (sym (set_again (map plain_of vs) id v.plain plain_at)) r.kept);
          long = r.long;
          each = each_of (IsTrueOf home by log) w
              record { of_shard = old.of_shard; of_caller = λ c is. sym (notes_of_none by c 1 log (λ k e q same. let a = (r.below).noted k e q in let b = some_same r.most c is in omega arith)); seen = old.seen; long = old.long; observations = old.observations }
              (λ j x ne ex. r.each j x ex);
          reported = each_of (λ y. IsPrefix y.reported log × (length y.reported ≤ frontier_of ws)) w (r.reported id v at) (λ j x ne ex. r.reported j x ex);
          legal = r.legal;
          most = suc r.most;
          below = record {
            first = omega arith;
            noted = λ n e q. let a = (r.below).noted n e q in omega arith;
            named = λ j c x ex. each_of (λ y. y.caller ≡ Some c → (0 < c) × (c < suc r.most)) w (λ e. let s = some_same r.most c e in (omega arith, omega arith)) (λ k y ne ey e. let n = (r.below).named k c y ey e in let a = n.0 in let b = n.1 in (omega arith, omega arith)) j x ex;
          };
          count = r.count;
          made = made_set w log r.count r.made (λ i e. e) (λ m e. e);
          shards = apart_set shard_of vs id v w at (λ i e. e) r.shards;
          callers = λ j k c x y ex ey gx gy. apart j k c x y ex ey gx gy;
          cutters = apart_set cutter_of vs id v w at (λ i e. e) r.cutters;
        }
      where
        new : (j : ℕ) (x : NotedView E) (c : ℕ) → get_elem? vs j ≡ some x → x.caller ≡ Some c → r.most ≡ c → ⊥
        new j x c ex is same = let b = ((r.below).named j c x ex is).1 in omega arith

        apart : IsApart caller_of (set vs id (named v r.most))
        apart j k c x y ex ey gx gy = ⊎_elim
            (λ (t : (j ≡ id) × (named v r.most ≡ x)). ⊎_elim
            (λ (u : (k ≡ id) × (named v r.most ≡ y)). t.0 ∙ sym u.0)
            (λ (u : (k ≢ id) × (get_elem? vs k ≡ some y)). absurd (new k y c u.1 gy (some_same r.most c (ap caller_of t.1 ∙ gx))))
            (at_set vs id k (named v r.most) y ey))
            (λ (t : (j ≢ id) × (get_elem? vs j ≡ some x)). ⊎_elim
            (λ (u : (k ≡ id) × (named v r.most ≡ y)). absurd (new j x c t.1 gx (some_same r.most c (ap caller_of u.1 ∙ gy))))
            (λ (u : (k ≢ id) × (get_elem? vs k ≡ some y)). r.callers j k c x y t.1 u.1 gx gy)
            (at_set vs id k (named v r.most) y ey))
            (at_set vs id j (named v r.most) x ex)

    -- a seat w is cut off, which is no shard's
    pub split_keeps : (l w : NotedView E) → Rule capacity ws (set (map plain_of vs) id l.plain ++ w.plain ∷ []) → IsTrueOf home by r.log l → IsTrueOf home by r.log w
        → IsPrefix l.reported r.log × (length l.reported ≤ frontier_of ws) → IsPrefix w.reported r.log × (length w.reported ≤ frontier_of ws)
        → ((i : ℕ) → l.shard ≡ Some i → v.shard ≡ Some i) → w.shard ≡ None → ((m : ℕ) → l.made ≡ Some m → v.made ≡ Some m) → w.made ≡ None
        → ((c : ℕ) → l.caller ≡ Some c → v.caller ≡ Some c) → ((c : ℕ) → w.caller ≡ Some c → v.caller ≡ Some c) → ((c : ℕ) → l.caller ≡ Some c → w.caller ≡ Some c → ⊥)
        → NotedRule home by accepts capacity ws (set vs id l ++ w ∷ [])
    split_keeps l w rule knows_l knows_w reported_l reported_w shard no_shard made no_made caller_l caller_w not_both =
        let log = r.log in
        let mid : List (NotedView E) = set vs id l in
        record {
          log = log;
          kept = subst (Rule capacity ws) (sym (map-append plain_of mid (w ∷ []) ∙ ap (λ ps. ps ++ w.plain ∷ []) (map-set plain_of vs id l))) rule;
          long = r.long;
          each = λ j x ex. ⊎_elim (each_of (IsTrueOf home by log) l knows_l (λ k y ne ey. r.each k y ey) j x) (λ (t : w ≡ x). subst (IsTrueOf home by log) t knows_w) (at_snoc mid w x j ex);
          reported = λ j x ex. ⊎_elim (each_of (λ y. IsPrefix y.reported log × (length y.reported ≤ frontier_of ws)) l reported_l (λ k y ne ey. r.reported k y ey) j x) (λ (t : w ≡ x). subst (λ y. IsPrefix y.reported log × (length y.reported ≤ frontier_of ws)) t reported_w) (at_snoc mid w x j ex);
          legal = r.legal;
          most = r.most;
          below = let b = below_set l log r.most r.below (λ c e. (r.below).named id c v at (caller_l c e)) in record {
            first = b.first;
            noted = b.noted;
            named = λ j c x ex is. ⊎_elim (λ t. b.named j c x t is) (λ (t : w ≡ x). (r.below).named id c v at (caller_w c (ap caller_of t ∙ is))) (at_snoc mid w x j ex);
          };
          count = r.count;
          made = let m = made_set l log r.count r.made shard made in record {
            noted = m.noted;
            seats = λ j i x ex is. ⊎_elim (λ t. m.seats j i x t is) (λ (t : w ≡ x). absurd (no_some i (sym no_shard ∙ (ap shard_of t ∙ is)))) (at_snoc mid w x j ex);
            cutter = λ j n x ex is. ⊎_elim (λ t. m.cutter j n x t is) (λ (t : w ≡ x). absurd (no_some n (sym no_made ∙ (ap (λ (y : NotedView E). y.made) t ∙ is)))) (at_snoc mid w x j ex);
          };
          shards = apart_snoc shard_of mid w (λ i j x e ex is. no_some i (sym no_shard ∙ e)) (apart_set shard_of vs id v l at shard r.shards);
          callers = apart_snoc caller_of mid w (λ c j x e ex is. ⊎_elim
              (λ (t : (j ≡ id) × (l ≡ x)). not_both c (ap caller_of t.1 ∙ is) e)
              (λ (t : (j ≢ id) × (get_elem? vs j ≡ some x)). t.0 (r.callers j id c x v t.1 at is (caller_w c e)))
              (at_set vs id j l x ex)) (apart_set caller_of vs id v l at caller_l r.callers);
          cutters = apart_snoc cutter_of mid w (λ i j x e ex is. no_some i (sym (ap zero_if no_made) ∙ e)) (apart_set cutter_of vs id v l at (zero_of l made) r.cutters);
        }

    -- another caller's seat is cut off
    pub caller_keeps : NotedRule home by accepts capacity ws (set vs id v ++ caller_noted v ∷ [])
    caller_keeps =
        let old = r.each id v at in
        let fits = fits_at in
        let few = (r.kept).few in
        split_keeps v (caller_noted v)
        (subst (λ l. Rule capacity ws (l ++ (caller_noted v).plain ∷ [])) (sym (set_again (map plain_of vs) id v.plain plain_at))
        (arrives capacity ws (map plain_of vs) r.kept (caller_noted v).plain refl refl refl (omega arith) record { knows = fits.knows; spent = λ e. absurd (true≢false (sym e)); seen = fits.seen; found = λ p. absurd (omega arith) }))
        old record { of_shard = λ i is. absurd (no_some i is); of_caller = λ c is. absurd (no_some c is); seen = old.seen; long = old.long; observations = λ n c q. absurd (some_ne c q) }
        (r.reported id v at) ((r.log, refl), omega arith) (λ i e. e) refl (λ m e. e) refl (λ c e. e) (λ c e. absurd (no_some c e)) (λ c e f. no_some c f)

    -- a caller's seat is cut off that was in it
    pub leave_keeps : NotedRule home by accepts capacity ws (set vs id (stayed v) ++ left_with v ∷ [])
    leave_keeps =
        let old = r.each id v at in
        let fits = fits_at in
        let few = (r.kept).few in
        split_keeps (stayed v) (left_with v)
        (subst (λ l. Rule capacity ws (l ++ (left_with v).plain ∷ [])) (sym (set_again (map plain_of vs) id v.plain plain_at))
        (arrives capacity ws (map plain_of vs) r.kept (left_with v).plain refl refl refl (omega arith) record { knows = fits.knows; spent = λ e. absurd (true≢false (sym e)); seen = fits.seen; found = λ p. absurd (omega arith) }))
        record { of_shard = old.of_shard; of_caller = λ c is. absurd (no_some c is); seen = old.seen; long = old.long; observations = λ n c q. absurd (some_ne c q) }
        record { of_shard = λ i is. absurd (no_some i is); of_caller = old.of_caller; seen = old.seen; long = old.long; observations = old.observations }
        (r.reported id v at) (r.reported id v at) (λ i e. e) refl (λ m e. e) refl (λ c e. absurd (no_some c e)) (λ c e. e) (λ c e f. no_some c e)

    -- a shard's seat is cut off
    pub shard_keeps : (m : ℕ) → v.made ≡ Some m → 0 < v.plain.seats → v.plain.spent ≡ false → NotedRule home by accepts capacity ws (set vs id (cut_off v) ++ shard_noted v ∷ [])
    shard_keeps m made left fresh =
        let log = r.log in
        let l : NotedView E = cut_off v in
        let w : NotedView E = shard_noted v in
        let mid : List (NotedView E) = set vs id l in
        let old = r.each id v at in
        let fits = fits_at in
        let is_count : m ≡ r.count = (r.made).cutter id m v at made in
        let fits_l : Fits capacity ws l.plain = record { knows = fits.knows; spent = λ e. absurd (true≢false (sym e ∙ fresh)); seen = fits.seen; found = fits.found } in
        let rule_mid : Rule capacity ws (set (map plain_of vs) id l.plain) = stays capacity ws (map plain_of vs) r.kept id v.plain plain_at l.plain refl refl refl (omega arith) fits_l in
        let few : _ = (r.kept).few in
        let sum = sum_by-set seats_of (map plain_of vs) id v.plain l.plain plain_at in
        let rule : Rule capacity ws (set (map plain_of vs) id l.plain ++ w.plain ∷ []) = arrives capacity ws (set (map plain_of vs) id l.plain) rule_mid w.plain refl refl refl (omega arith)
        record { knows = fits.knows; spent = λ e. absurd (true≢false (sym e)); seen = omega arith; found = λ p. absurd (omega arith) } in
        let l_made : l.made ≡ Some (m + 1) = ap made_after made in
        let low : (i j : ℕ) (x : NotedView E) → get_elem? mid j ≡ some x → x.shard ≡ Some i → i < r.count = λ i j x. each_of (λ y. y.shard ≡ Some i → i < r.count) l (λ e. (r.made).seats id i v at e) (λ k y ne ey. (r.made).seats k i y ey) j x in
        record {
          log = log;
          kept = subst (Rule capacity ws) (sym (map-append plain_of mid (w ∷ []) ∙ ap (λ ps. ps ++ w.plain ∷ []) (map-set plain_of vs id l))) rule;
          long = r.long;
          each = λ j x ex. ⊎_elim (each_of (IsTrueOf home by log) l record { of_shard = old.of_shard; of_caller = old.of_caller; seen = old.seen; long = old.long; observations = old.observations } (λ k y ne ey. r.each k y ey) j x)
              (λ (t : w ≡ x). subst (IsTrueOf home by log) t record {
                of_shard = λ i is. sym (notes_of_none home i 1 log (λ k e q same. let a = (r.made).noted k e q in let b = some_same m i (sym made ∙ is) in omega arith));
                of_caller = λ c is. absurd (no_some c is);
                seen = (log, refl);
                long = refl;
                observations = λ n c q. absurd (some_ne c q);
              }) (at_snoc mid w x j ex);
          reported = λ j x ex. ⊎_elim (each_of (λ y. IsPrefix y.reported log × (length y.reported ≤ frontier_of ws)) l (r.reported id v at) (λ k y ne ey. r.reported k y ey) j x) (λ (t : w ≡ x). subst (λ y. IsPrefix y.reported log × (length y.reported ≤ frontier_of ws)) t ((log, refl), omega arith)) (at_snoc mid w x j ex);
          legal = r.legal;
          most = r.most;
          below = let b = below_set l log r.most r.below (λ c e. (r.below).named id c v at e) in record {
            first = b.first;
            noted = b.noted;
            named = λ j c x ex is. ⊎_elim (λ t. b.named j c x t is) (λ (t : w ≡ x). absurd (no_some c (ap caller_of t ∙ is))) (at_snoc mid w x j ex);
          };
          count = r.count + 1;
          made = record {
            noted = λ n e q. let a = (r.made).noted n e q in omega arith;
            seats = λ j i x ex is. ⊎_elim (λ t. let a = low i j x t is in omega arith) (λ (t : w ≡ x). let b = some_same m i (sym made ∙ (ap shard_of t ∙ is)) in omega arith) (at_snoc mid w x j ex);
            cutter = λ j n x ex is. ⊎_elim
                (λ t. ⊎_elim
                (λ (u : (j ≡ id) × (l ≡ x)). sym (some_same (m + 1) n (sym l_made ∙ (ap (λ (y : NotedView E). y.made) u.1 ∙ is))) ∙ ap (λ k. k + 1) is_count)
                (λ (u : (j ≢ id) × (get_elem? vs j ≡ some x)). absurd (u.0 (r.cutters j id 0 x v u.1 at (ap zero_if is) (ap zero_if made))))
                (at_set vs id j l x t))
                (λ (t : w ≡ x). absurd (no_some n (ap (λ (y : NotedView E). y.made) t ∙ is))) (at_snoc mid w x j ex);
          };
          shards = apart_snoc shard_of mid w (λ i j x e ex is. let a = low i j x ex is in let b = some_same m i (sym made ∙ e) in omega arith) (apart_set shard_of vs id v l at (λ i e. e) r.shards);
          callers = apart_snoc caller_of mid w (λ i j x e ex is. no_some i e) (apart_set caller_of vs id v l at (λ i e. e) r.callers);
          cutters = apart_snoc cutter_of mid w (λ i j x e ex is. no_some i e) (apart_set cutter_of vs id v l at (λ i e. ap zero_if made ∙ (sym (ap zero_if l_made) ∙ e)) r.cutters);
        }

    -- another seat w, which is no shard's, is taken in
    module _ (other : ℕ) (w both : NotedView E) (no_shard : w.shard ≡ None) (no_filled : w.plain.filled ≡ []) (no_open : w.plain.pending ≡ None) (fresh : w.plain.spent ≡ false) (apart : other ≢ id) (there : get_elem? (set vs id both) other ≡ some w) where
      pub there_before : get_elem? vs other ≡ some w
      there_before = ⊎_elim (λ (t : (other ≡ id) × (both ≡ w)). absurd (apart t.0)) (λ (t : (other ≢ id) × (get_elem? vs other ≡ some w)). t.1) (at_set vs id other both w there)

      -- each seat that is left was there, or is one of the two
      left_of : (P : NotedView E → Type 0) → P both → P left_over → ((j : ℕ) (x : NotedView E) → j ≢ id → j ≢ other → get_elem? vs j ≡ some x → P x) → (j : ℕ) (x : NotedView E) → get_elem? (set (set vs id both) other left_over) j ≡ some x → P x
      left_of P mine spent others j x ex = ⊎_elim
          (λ (t : (j ≡ other) × (left_over ≡ x)). subst P t.1 spent)
          (λ (t : (j ≢ other) × (get_elem? (set vs id both) j ≡ some x)). ⊎_elim
          (λ (u : (j ≡ id) × (both ≡ x)). subst P u.1 mine)
          (λ (u : (j ≢ id) × (get_elem? vs j ≡ some x)). others j x u.0 t.0 u.1)
          (at_set vs id j both x t.1))
          (at_set (set vs id both) other j left_over x ex)

      pub join_keeps : both.plain.filled ≡ v.plain.filled → both.plain.pending ≡ v.plain.pending → both.plain.spent ≡ v.plain.spent → both.plain.seats ≤ v.plain.seats → Fits capacity ws both.plain
          → IsTrueOf home by r.log both → IsPrefix both.reported r.log × (length both.reported ≤ frontier_of ws)
          → ((i : ℕ) → both.shard ≡ Some i → v.shard ≡ Some i) → ((m : ℕ) → both.made ≡ Some m → v.made ≡ Some m) → ((c : ℕ) → both.caller ≡ Some c → (v.caller ≡ Some c) ⊎ (w.caller ≡ Some c))
          → NotedRule home by accepts capacity ws (set (set vs id both) other left_over)
      join_keeps filled pending spent seats fits knows reported shard made caller =
          let log = r.log in
          let mid : List (NotedView E) = set vs id both in
          let rule_mid : Rule capacity ws (map plain_of mid) = plains both ws (stays capacity ws (map plain_of vs) r.kept id v.plain plain_at both.plain filled pending spent seats fits) in
          let rule_end : Rule capacity ws (map plain_of (set mid other left_over)) = subst (Rule capacity ws) (sym (map-set plain_of mid other left_over))
          (stays capacity ws (map plain_of mid) rule_mid other w.plain (at_map plain_of mid other w there) (left_over {E = E}).plain (sym no_filled) (sym no_open) (sym fresh) (omega arith)
          record { knows = λ p. absurd (omega arith); spent = λ e. absurd (true≢false (sym e)); seen = omega arith; found = λ p. absurd (omega arith) }) in
          let both_caller : (c : ℕ) → both.caller ≡ Some c → (0 < c) × (c < r.most) = λ c e. ⊎_elim (λ t. (r.below).named id c v at t) (λ t. (r.below).named other c w there_before t) (caller c e) in
          record {
            log = log;
            kept = rule_end;
            long = r.long;
            each = left_of (IsTrueOf home by log) knows record { of_shard = λ i is. absurd (no_some i is); of_caller = λ c is. absurd (no_some c is); seen = (log, refl); long = refl; observations = λ n c q. absurd (some_ne c q) } (λ j x ne no ex. r.each j x ex);
            reported = left_of (λ y. IsPrefix y.reported log × (length y.reported ≤ frontier_of ws)) reported ((log, refl), omega arith) (λ j x ne no ex. r.reported j x ex);
            legal = r.legal;
            most = r.most;
            below = record { first = (r.below).first; noted = (r.below).noted; named = λ j c x ex. left_of (λ y. y.caller ≡ Some c → (0 < c) × (c < r.most)) (both_caller c) (λ e. absurd (no_some c e)) (λ k y ne no ey. (r.below).named k c y ey) j x ex };
            count = r.count;
            made = record {
              noted = (r.made).noted;
              seats = λ j i x ex. left_of (λ y. y.shard ≡ Some i → i < r.count) (λ e. (r.made).seats id i v at (shard i e)) (λ e. absurd (no_some i e)) (λ k y ne no ey. (r.made).seats k i y ey) j x ex;
              cutter = λ j n x ex. left_of (λ y. y.made ≡ Some n → n ≡ r.count) (λ e. (r.made).cutter id n v at (made n e)) (λ e. absurd (no_some n e)) (λ k y ne no ey. (r.made).cutter k n y ey) j x ex;
            };
            shards = apart_set shard_of mid other w left_over there (λ i e. absurd (no_some i e)) (apart_set shard_of vs id v both at shard r.shards);
            callers = λ j k c x y ex ey gx gy. one_caller j k c (origin j c x ex gx) (origin k c y ey gy);
            cutters = apart_set cutter_of mid other w left_over there (λ i e. absurd (no_some i e)) (apart_set cutter_of vs id v both at (zero_of both made) r.cutters);
          }
        where
          Origin : ℕ → ℕ → Type 0
          Origin j c = (k : ℕ) × (y : NotedView E) × (get_elem? vs k ≡ some y) × (y.caller ≡ Some c) × (((j ≡ id) × ((k ≡ id) ⊎ (k ≡ other))) ⊎ ((j ≢ id) × (j ≢ other) × (k ≡ j)))

          origin : (j c : ℕ) (x : NotedView E) → get_elem? (set (set vs id both) other left_over) j ≡ some x → x.caller ≡ Some c → Origin j c
          origin j c x e is = ⊎_elim
              (λ (t : (j ≡ other) × (left_over ≡ x)). absurd (no_some c (ap caller_of t.1 ∙ is)))
              (λ (t : (j ≢ other) × (get_elem? (set vs id both) j ≡ some x)). ⊎_elim
              (λ (u : (j ≡ id) × (both ≡ x)). ⊎_elim
              (λ (q : v.caller ≡ Some c). (id, v, at, q, inl (u.0, inl refl)))
              (λ (q : w.caller ≡ Some c). (other, w, there_before, q, inl (u.0, inr refl)))
              (caller c (ap caller_of u.1 ∙ is)))
              (λ (u : (j ≢ id) × (get_elem? vs j ≡ some x)). (j, x, u.1, is, inr (u.0, t.0, refl)))
              (at_set vs id j both x t.1))
              (at_set (set vs id both) other j left_over x e)

          beside : (j a b : ℕ) → a ≡ b → (j ≢ id) × (j ≢ other) × (b ≡ j) → (a ≡ id) ⊎ (a ≡ other) → ⊥
          beside j a b same q h = ⊎_elim (λ e. q.0 (sym q.2 ∙ (sym same ∙ e))) (λ e. q.1 (sym q.2 ∙ (sym same ∙ e))) h

          one_origin : (j k a b : ℕ) → a ≡ b → (((j ≡ id) × ((a ≡ id) ⊎ (a ≡ other))) ⊎ ((j ≢ id) × (j ≢ other) × (a ≡ j))) → (((k ≡ id) × ((b ≡ id) ⊎ (b ≡ other))) ⊎ ((k ≢ id) × (k ≢ other) × (b ≡ k))) → j ≡ k
          one_origin j k a b same (inl p) (inl q) = p.0 ∙ sym q.0
          one_origin j k a b same (inl p) (inr q) = absurd (beside k a b same q p.1)
          one_origin j k a b same (inr p) (inl q) = absurd (beside j b a (sym same) p q.1)
          one_origin j k a b same (inr p) (inr q) = sym p.2 ∙ (same ∙ q.2)

          one_caller : (j k c : ℕ) → Origin j c → Origin k c → j ≡ k
          one_caller j k c p q = one_origin j k p.0 q.0 (r.callers p.0 q.0 c p.1 q.1 p.2 q.2 p.3 q.3) p.4 q.4

    -- a caller's seat is taken into a shard's
    pub enter_keeps : (other : ℕ) (w : NotedView E) → v.caller ≡ None → w.shard ≡ None → w.plain.filled ≡ [] → w.plain.pending ≡ None → w.plain.spent ≡ false → other ≢ id → get_elem? (set vs id (entered v w)) other ≡ some w
        → NotedRule home by accepts capacity ws (set (set vs id (entered v w)) other left_over)
    enter_keeps other w alone no_shard no_filled no_open fresh apart there =
        let old = r.each id v at in
        let at_w = there_before other w (entered v w) no_shard no_filled no_open fresh apart there in
        let his = r.each other w at_w in
        let fits_v = fits_at in
        let fits_w = (r.kept).each_seat other w.plain (at_map plain_of vs other w at_w) in
        join_keeps other w (entered v w) no_shard no_filled no_open fresh apart there refl refl refl (le_refl v.plain.seats)
        record { knows = fits_v.knows; spent = fits_v.spent; seen = fits_w.seen; found = λ p. absurd (omega arith) }
        record { of_shard = old.of_shard; of_caller = his.of_caller; seen = his.seen; long = his.long; observations = his.observations } (old.seen, let long = old.long in let low = fits_v.seen in omega arith) (λ i e. e) (λ m e. e) (λ c e. inr e)

    -- what another seat has seen is reported to a seat
    pub tell_keeps : (other : ℕ) (w : NotedView E) → w.shard ≡ None → w.plain.filled ≡ [] → w.plain.pending ≡ None → w.plain.spent ≡ false → other ≢ id → get_elem? (set vs id (told v w)) other ≡ some w
        → NotedRule home by accepts capacity ws (set (set vs id (told v w)) other left_over)
    tell_keeps other w no_shard no_filled no_open fresh apart there =
        let old = r.each id v at in
        let at_w = there_before other w (told v w) no_shard no_filled no_open fresh apart there in
        let his = r.each other w at_w in
        let long = his.long in
        let fits_w = (r.kept).each_seat other w.plain (at_map plain_of vs other w at_w) in
        let seen = fits_w.seen in
        join_keeps other w (told v w) no_shard no_filled no_open fresh apart there refl refl refl (le_refl v.plain.seats) fits_at
        record { of_shard = old.of_shard; of_caller = old.of_caller; seen = old.seen; long = old.long; observations = old.observations } (his.seen, omega arith) (λ i e. e) (λ m e. e) (λ c e. inl e)

  -- the rule of a new line
  pub log_begins : capacity ≤ 1048576 → NotedRule home by accepts capacity (replicate (capacity + 2) 0) (first_noted capacity ∷ [])
  log_begins small =
      let none_drawn : count_of (replicate (capacity + 2) 0) ≡ 0 = get_or-replicate (capacity + 2) 1 0 0 (omega arith) in
      record {
        log = [];
        kept = begins capacity small;
        long = omega arith;
        each = only (IsTrueOf home by []) record { of_shard = λ i is. absurd (no_some i is); of_caller = λ c is. absurd (no_some c is); seen = ([], refl); long = refl; observations = λ n c q. absurd (some_ne c q) };
        reported = only (λ y. IsPrefix y.reported [] × (length y.reported ≤ frontier_of (replicate (capacity + 2) 0))) (([], refl), omega arith);
        legal = λ n e q. absurd (some_ne e q);
        most = 1;
        below = record { first = omega arith; noted = λ n e q. absurd (some_ne e q); named = λ j c v ev. only (λ y. y.caller ≡ Some c → (0 < c) × (c < 1)) (λ e. absurd (no_some c e)) j v ev };
        count = 0;
        made = record { noted = λ n e q. absurd (some_ne e q); seats = λ j i v ev. only (λ y. y.shard ≡ Some i → i < 0) (λ e. absurd (no_some i e)) j v ev; cutter = λ j m v ev. only (λ y. y.made ≡ Some m → m ≡ 0) (λ e. sym (some_same 0 m e)) j v ev };
        shards = single shard_of;
        callers = single caller_of;
        cutters = single cutter_of;
      }
    where
      only : (P : NotedView E → Type 0) → P (first_noted capacity) → (j : ℕ) (v : NotedView E) → get_elem? (first_noted capacity ∷ []) j ≡ some v → P v
      only P h zero v e = subst P (some-injective _ _ e) h
      only P h (suc j) v e = absurd (some-ne-none v (sym e))

      single : (g : NotedView E → Option ℕ) → IsApart g (first_noted capacity ∷ [])
      single g zero zero i v w ev ew gv gw = refl
      single g zero (suc k) i v w ev ew gv gw = absurd (some-ne-none w (sym ew))
      single g (suc j) k i v w ev ew gv gw = absurd (some-ne-none v (sym ev))

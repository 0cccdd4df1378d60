-- What each step on the table owes: whatever the table is, the seat has a new view that keeps the rule.
use Rattle.std.proofs.Common.{◌≡◌, ℕ, ◌+◌, ◌-◌, ◌%◌, ◌^◌, ◌<◌, ◌≤◌, max, List, [], map, length, set, get_or, true, false, Option, Some, None, refl, sym, ap, ◌∙◌, subst, arith, le_refl, lt_of_not-le, get_or-set_same, get_or-set_other}
use mathlib.Core.Logic.{dite}
use native.Mathlib.Decide.{dec_le, ℕ_discrete}
use lib.Seq.{set-get_or}
use Rattle.atomic_table.specs.Table.{State, Me, keeps, Allows, Splits, Joins}
use Rattle.line.specs.declared.view.View.{View}
use Rattle.line.specs.declared.view.NotedView.{NotedView}
use Rattle.line.specs.View.{times, list_of, has as has_number, used_up, filled_in, tried, saw, looked}
use Rattle.line.specs.Rule.{count_of, frontier_of, mark_of, drawn_of, Rule}
use Rattle.line.specs.Notes.{notes_up_to, notes_of}
use Rattle.line.specs.NotedRule.{NotedRule, plain_of}
use Rattle.line.specs.NotedSteps.{Matches, LiftsNoted, LooksNoted, Observes, IsNamed, MayDraw, DrawsNoted, FillsNoted, TriesNoted}
use Rattle.line.specs.NotedView.{drew_noted, with_plain, saw_noted, looked_noted, observed, named, cut_off, shard_noted, caller_noted, entered, left_over, stayed, left_with, told}
use Rattle.line.proofs.Sums.{times-append, times_here, all_from_times}
use Rattle.line.proofs.Keeping.{has_drawn, marks_within, frontier_within, frontier_drawn, count_small, stays, misses, lifts, fills}
use Rattle.line.proofs.Logs.{notes_up_to_whole}
use Rattle.line.proofs.Logging.{fits_at, plain_at, front_seen, sees_front, seen_keeps, plain_keeps, draw_keeps, observe_keeps, name_tells, name_keeps, caller_keeps, leave_keeps, shard_keeps, enter_keeps, tell_keeps}

module _ {S : Type 0} {E : Type 0} (home by : E → ℕ) (accepts : List (ℕ × E) → E → Type 0) (capacity : ℕ) where
  abbrev kept : State S (NotedView E) → Type 0
  kept s = NotedRule home by accepts capacity s.words s.views

  module _ (slots id : ℕ) (me : Me S (NotedView E)) where
    pub may_draw : (o : Option E) → 0 < me.0.plain.capacity → me.0.plain.pending ≡ None → me.0.plain.spent ≡ false → me.0.plain.seats ≡ 1 → MayDraw home by accepts o me.0
        → Allows kept slots id me 1 (λ n. (n + 1) % 2 ^ 64) (λ n w. (w.1 ≡ me.1) × DrawsNoted o me.0 n w.0)
    may_draw None live closed fresh one never s r _ at _ = absurd never
    may_draw (Some e) live closed fresh one may s r _ at _ =
        let n : ℕ = count_of s.words in
        let v : NotedView E = me.0 in
        let plain = plain_at home by accepts capacity s.words s.views r id v at in
        let knows = (fits_at home by accepts capacity s.words s.views r id v at).knows live in
        let small = count_small capacity s.words (map plain_of s.views) r.kept in
        let up : n + 1 ≡ (n + 1) % 2 ^ 64 = omega arith in
        let wide = (r.kept).width in
        let here : count_of (set s.words 1 (n + 1)) ≡ n + 1 = get_or-set_same s.words 1 (n + 1) 0 (omega arith) in
        let front : frontier_of (set s.words 1 (n + 1)) ≡ frontier_of s.words = get_or-set_other s.words 1 0 (n + 1) 0 (λ e. omega arith) in
        let long = r.long in
        dite (dec_le capacity n)
        (λ out. (
          with_plain v (used_up v.plain),
          keeps,
          tt,
          subst (λ k. NotedRule home by accepts capacity (set s.words 1 k) (set s.views id (with_plain v (used_up v.plain)))) up
              (plain_keeps home by accepts capacity s.words s.views r id v at (set s.words 1 (n + 1)) (used_up v.plain) refl (misses capacity s.words (map plain_of s.views) r.kept id v.plain plain fresh one out) (omega arith) (omega arith)),
          (refl, ((λ l. absurd (omega arith)), (λ l. refl))),
        ))
        (λ not_out. let room = lt_of_not-le not_out in
        let all : notes_up_to n v.notes ≡ v.notes = (let own = (r.each id v at).of_shard (home e) may.0 in ap (notes_up_to n) own ∙ (ap (λ m. notes_up_to m (notes_of home (home e) 1 r.log)) (let l : n ≡ length r.log = omega arith in l) ∙ (notes_up_to_whole home (home e) r.log ∙ sym own))) in (
          drew_noted v (n + 1) e,
          keeps,
          tt,
          subst (λ k. NotedRule home by accepts capacity (set s.words 1 k) (set s.views id (drew_noted v (n + 1) e))) up (draw_keeps home by accepts capacity s.words s.views r id v at e closed may.0 may.1 may.2 room),
          (refl, ((λ l. (refl, all_from_times n v.plain.filled (λ k p. let d = (has_drawn capacity s.words (map plain_of s.views) r.kept id v.plain plain k (let a = times-append k v.plain.filled (list_of v.plain.pending) in omega arith)).1 in omega arith), all, (let seen = (fits_at home by accepts capacity s.words s.views r id v at).seen in let drawn = frontier_drawn capacity s.words (map plain_of s.views) r.kept in omega arith))), (λ l. absurd (omega arith)))),
        ))

    pub may_fill : (k : ℕ) → me.0.plain.pending ≡ Some k → Allows kept slots id me (k + 1) (λ _. 1) (λ _ w. (w.1 ≡ me.1) × FillsNoted (k + 1) me.0 w.0)
    may_fill k is s r _ at _ =
        let v : NotedView E = me.0 in
        let plain = plain_at home by accepts capacity s.words s.views r id v at in
        let back : k ≡ (k + 1) - 1 = omega arith in
        let mine = has_drawn capacity s.words (map plain_of s.views) r.kept id v.plain plain k (has_open v.plain k is) in
        let pos : 0 < k = mine.0 in
        let count : count_of (set s.words (k + 1) 1) ≡ count_of s.words = get_or-set_other s.words (k + 1) 1 1 0 (λ e. omega arith) in
        let front : frontier_of (set s.words (k + 1) 1) ≡ frontier_of s.words = get_or-set_other s.words (k + 1) 0 1 0 (λ e. omega arith) in (
          with_plain v (filled_in v.plain k),
          keeps,
          tt,
          plain_keeps home by accepts capacity s.words s.views r id v at (set s.words (k + 1) 1) (filled_in v.plain k) refl (fills capacity s.words (map plain_of s.views) r.kept id v.plain plain k is) (omega arith) (omega arith),
          (refl, (refl, ap (filled_in v.plain) back)),
        )
      where
        has_open : (v : View) (k : ℕ) → v.pending ≡ Some k → 0 < has_number k v
        has_open v k is = let a = times-append k v.filled (list_of v.pending) in let b : times k (list_of v.pending) ≡ 1 = ap (λ o. times k (list_of o)) is ∙ times_here k in omega arith

    -- a load changes no word
    unmoved : (s : State S (NotedView E)) (i : ℕ) (w : NotedView E) → NotedRule home by accepts capacity s.words (set s.views id w) → NotedRule home by accepts capacity (set s.words i (get_or s.words i 0)) (set s.views id w)
    unmoved s i w r = subst (λ ws. NotedRule home by accepts capacity ws (set s.views id w)) (sym (set-get_or s.words i 0)) r

    pub may_try : (n : ℕ) → 0 < n → Allows kept slots id me (n + 1) (λ x. x) (λ x w. (w.1 ≡ me.1) × TriesNoted (n + 1) me.0 x w.0)
    may_try n pos s r _ at _ =
        let v : NotedView E = me.0 in
        let plain = plain_at home by accepts capacity s.words s.views r id v at in
        let old = fits_at home by accepts capacity s.words s.views r id v at in
        let back : n ≡ (n + 1) - 1 = omega arith in
        dite (ℕ_discrete (mark_of s.words n) 0)
        (λ z. (
          with_plain v (tried v.plain n false),
          keeps,
          tt,
          unmoved s (n + 1) (with_plain v (tried v.plain n false)) (plain_keeps home by accepts capacity s.words s.views r id v at s.words (tried v.plain n false) refl
              (stays capacity s.words (map plain_of s.views) r.kept id v.plain plain (tried v.plain n false) refl refl refl (le_refl v.plain.seats) record { knows = old.knows; spent = old.spent; seen = old.seen; found = old.found }) refl (le_refl (frontier_of s.words))),
          (refl, (refl, ((λ l. absurd (omega arith)), (λ _. ap (λ k. tried v.plain k false) back)))),
        ))
        (λ nz. (
          with_plain v (tried v.plain n true),
          keeps,
          tt,
          unmoved s (n + 1) (with_plain v (tried v.plain n true)) (plain_keeps home by accepts capacity s.words s.views r id v at s.words (tried v.plain n true) refl
              (stays capacity s.words (map plain_of s.views) r.kept id v.plain plain (tried v.plain n true) refl refl refl (le_refl v.plain.seats) record { knows = old.knows; spent = old.spent; seen = old.seen; found = λ _. omega arith }) refl (le_refl (frontier_of s.words))),
          (refl, (refl, ((λ _. ap (λ k. tried v.plain k true) back), (λ z. absurd (nz z))))),
        ))

    pub may_look : 0 < me.0.plain.capacity → Allows kept slots id me 0 (λ x. x) (λ n w. (w.1 ≡ me.1) × LooksNoted home by accepts me.0 n w.0)
    may_look live s r _ at _ =
        let v : NotedView E = me.0 in
        let plain = plain_at home by accepts capacity s.words s.views r id v at in
        let old = fits_at home by accepts capacity s.words s.views r id v at in
        let f : ℕ = frontier_of s.words in
        let knows = old.knows live in
        let within = frontier_within capacity s.words (map plain_of s.views) r.kept in
        let drawn = frontier_drawn capacity s.words (map plain_of s.views) r.kept in
        let seen : List E = front_seen home by accepts capacity s.words s.views r id v at s.words refl (le_refl f) drawn in
        let w : NotedView E = looked_noted v f seen in (
          w,
          keeps,
          tt,
          unmoved s 0 w (seen_keeps home by accepts capacity s.words s.views r id v at s.words refl (le_refl f) drawn (looked v.plain f) refl
              (stays capacity s.words (map plain_of s.views) r.kept id v.plain plain (looked v.plain f) refl refl refl (le_refl v.plain.seats) record { knows = old.knows; spent = old.spent; seen = le_refl f; found = old.found })),
          (refl, (refl, sees_front home by accepts capacity s.words s.views r id v at s.words refl (le_refl f) drawn, old.seen, omega arith)),
        )

    pub may_lift : 0 < me.0.plain.capacity → (k : ℕ) → k ≡ me.0.plain.seen + 1 → me.0.plain.found ≡ k → Allows kept slots id me 0 (λ n. max n k) (λ n w. (w.1 ≡ me.1) × LiftsNoted home by accepts k me.0 n w.0)
    may_lift live k is found s r _ at _ =
        let v : NotedView E = me.0 in
        let plain = plain_at home by accepts capacity s.words s.views r id v at in
        let old = fits_at home by accepts capacity s.words s.views r id v at in
        let f : ℕ = frontier_of s.words in
        let ws' : List ℕ = set s.words 0 (max f k) in
        let wide = (r.kept).width in
        let within = frontier_within capacity s.words (map plain_of s.views) r.kept in
        let mark : 0 < mark_of s.words k = subst (λ n. 0 < mark_of s.words n) found (old.found (omega arith)) in
        let inside = marks_within capacity s.words (map plain_of s.views) r.kept k mark in
        let knows = old.knows live in
        let rule : Rule capacity ws' (set (map plain_of s.views) id (saw v.plain (max f k))) = subst (λ n. Rule capacity (set s.words 0 (max f n)) (set (map plain_of s.views) id (saw v.plain (max f n)))) (sym is) (lifts capacity s.words (map plain_of s.views) r.kept id v.plain plain (found ∙ is)) in
        let here : frontier_of ws' ≡ max f k = get_or-set_same s.words 0 (max f k) 0 (omega arith) in
        let count : count_of ws' ≡ count_of s.words = get_or-set_other s.words 0 1 (max f k) 0 (λ e. omega arith) in
        let same : drawn_of capacity ws' ≡ drawn_of capacity s.words = omega arith in
        let drawn = frontier_drawn capacity ws' (set (map plain_of s.views) id (saw v.plain (max f k))) rule in
        let further : f ≤ frontier_of ws' = omega arith in
        let seen : List E = front_seen home by accepts capacity s.words s.views r id v at ws' same further drawn in (
          saw_noted v (max f k) seen,
          keeps,
          tt,
          seen_keeps home by accepts capacity s.words s.views r id v at ws' same further drawn (saw v.plain (max f k)) (sym here) rule,
          (refl, (refl, subst (λ n. Matches home by accepts v n seen) here (sees_front home by accepts capacity s.words s.views r id v at ws' same further drawn), old.seen, omega arith)),
        )

    pub may_observe : (floor i : ℕ) → me.0.shard ≡ Some i → 0 < me.0.plain.capacity → Allows kept slots id me 0 (λ x. x) (λ _ w. (w.1 ≡ me.1) × Observes home by accepts floor me.0 w.0)
    may_observe floor i is live s r _ at _ =
        let c = observe_keeps home by accepts capacity s.words s.views r id me.0 at floor i is live in
        (observed me.0 i c.0 floor, keeps, tt, unmoved s 0 (observed me.0 i c.0 floor) c.2, (refl, (i, c.0, is, c.1, refl)))

    pub may_name : me.0.caller ≡ None → Allows kept slots id me 0 (λ x. x) (λ _ w. (w.1 ≡ me.1) × IsNamed home by accepts me.0 w.0)
    may_name alone s r _ at _ = (named me.0 r.most, keeps, tt, unmoved s 0 (named me.0 r.most) (name_keeps home by accepts capacity s.words s.views r id me.0 at alone), (refl, let t = name_tells home by accepts capacity s.words s.views r id me.0 at in (r.most, refl, t.0, t.1, t.2)))

  module _ (id : ℕ) (v : NotedView E) where
    pub may_split_caller : Splits kept id v v (caller_noted v)
    may_split_caller s r at = caller_keeps home by accepts capacity s.words s.views r id v at

    pub may_split_shard : (m : ℕ) → v.made ≡ Some m → 0 < v.plain.seats → v.plain.spent ≡ false → Splits kept id v (cut_off v) (shard_noted v)
    may_split_shard m made left fresh s r at = shard_keeps home by accepts capacity s.words s.views r id v at m made left fresh

    pub may_leave : Splits kept id v (stayed v) (left_with v)
    may_leave s r at = leave_keeps home by accepts capacity s.words s.views r id v at

    pub may_enter : (other : ℕ) (w : NotedView E) → v.caller ≡ None → w.shard ≡ None → w.plain.filled ≡ [] → w.plain.pending ≡ None → w.plain.spent ≡ false → Joins kept id v other w (entered v w) left_over
    may_enter other w alone no_shard no_filled no_open fresh s r at apart there = enter_keeps home by accepts capacity s.words s.views r id v at other w alone no_shard no_filled no_open fresh apart there

    pub may_tell : (other : ℕ) (w : NotedView E) → w.shard ≡ None → w.plain.filled ≡ [] → w.plain.pending ≡ None → w.plain.spent ≡ false → Joins kept id v other w (told v w) left_over
    may_tell other w no_shard no_filled no_open fresh s r at apart there = tell_keeps home by accepts capacity s.words s.views r id v at other w no_shard no_filled no_open fresh apart there

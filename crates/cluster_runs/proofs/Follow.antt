-- A list of what a caller called follows its controller, if it is in the order of the calls and has each one that was answered.
use Rattle.std.proofs.Common.{◌≡◌, ◌<◌, ◌≤◌, inl, inr, ℕ, List, [], ◌∷◌, refl, sym, ap, subst, arith}
use Rattle.requests.specs.declared.request.Request.{Request}
use Rattle.requests.specs.declared.reply.Reply.{Reply}
use Rattle.interleavings.specs.declared.trace.Item.{Item}
use Rattle.interleavings.specs.declared.trace.Item.TheVariants as item
use Rattle.interleavings.specs.Linearization.{Answers, Has, IsHistory}
use Rattle.interleavings.proofs.Basics.{Compared, same, other, compare, Least, atmost, above, least}
use Rattle.interleavings.proofs.Histories.{caller_of}
use Rattle.interleavings.proofs.Places.{one_item}
use Rattle.rounds.specs.Incarnation.{Follows}
use Rattle.rounds.specs.Phase.{Phase, takes}
use Rattle.rounds.specs.Reconciler.{Reconciler}
use Rattle.cluster_runs.proofs.Heard.{HasAsked, asked_at, heard_before, heard_later, heard_once}
use Rattle.cluster_runs.proofs.Own.{AreUpward, Placed, exchanges_in}

module _ (c : Reconciler) (n : ℕ) (phase : Phase) (items : List Item) (asked : HasAsked c n phase items) (history : IsHistory items) where
  abbrev AreCalls : List Placed → Type 0
  AreCalls xs = (x : Placed) → Has x xs → Has (item.Call x.0 n x.1.0) items

  -- each answered call of the caller, from the index on
  abbrev HasAnswered : ℕ → List Placed → Type 0
  HasAnswered from xs = (at p : ℕ) (a : Reply) (answers : Answers items at p a) → answers.caller ≡ n → from ≤ p → Has (p, (answers.request, a)) xs

  -- ---- callers that got their replies
  by_caller : (at p : ℕ) (r : Request) (a : Reply) (answers : Answers items at p a) → Has (item.Call p n r) items → answers.caller ≡ n
  by_caller at p r a answers called = ap caller_of (one_item items (item.Call p answers.caller answers.request) (item.Call p n r) history.rising answers.called called refl)

  record HasReplied (at p : ℕ) (a : Reply) : Type 0 where
    answers : Answers items at p a
    by : answers.caller ≡ n

  replied : (at : ℕ) (a : Reply) → Has (item.Reply at n a) items → (p : ℕ) × HasReplied at p a
  replied at a there =
      let found = history.paired at n a there in
      let answers : Answers items at found.0 a = found.1 in
      (found.0, record { answers = answers; by = ap caller_of (one_item items (item.Reply at answers.caller a) (item.Reply at n a) history.rising answers.replied there refl) })

  reply_at : (at p : ℕ) (a : Reply) → HasReplied at p a → Has (item.Reply at n a) items
  reply_at at p a h = subst (λ m. Has (item.Reply at m a) items) h.by h.answers.replied

  -- no reply is at a call's index
  not_there : (p x : ℕ) (r : Request) (b : Reply) → Has (item.Call p n r) items → Has (item.Reply x n b) items → p ≡ x → ⊥
  not_there p x r b called there is = let one : item.Call p n r ≡ item.Reply x n b = one_item items (item.Call p n r) (item.Reply x n b) history.rising called there is in absurd cc

  -- ---- one call after another
  module _ (x y : Placed) (xs : List Placed) (calls : AreCalls (x ∷ y ∷ xs)) (upward : AreUpward (x ∷ y ∷ xs)) (all : HasAnswered x.0 (x ∷ y ∷ xs)) where
    -- an answered call before the second one is the first one
    is_first : (at q : ℕ) (b : Reply) (h : HasReplied at q b) → x.0 ≤ q → q < y.0 → (q, (h.answers.request, b)) ≡ x
    is_first at q b h low high = go (all at q b h.answers h.by low)
      where
        go : Has (q, (h.answers.request, b)) (x ∷ y ∷ xs) → (q, (h.answers.request, b)) ≡ x
        go (inl e) = e
        go (inr (inl e)) = let here : q ≡ y.0 = ap (λ (z : Placed). z.0) e in absurd (omega (arith, here, high))
        go (inr (inr there)) = let later = upward.1.0 (q, (h.answers.request, b)) there in absurd (omega (arith, later, high))

    first_call : Has (item.Call x.0 n x.1.0) items
    first_call = calls x (inl refl)

    -- the first one was answered before the second one was called
    record IsAnswered : Type 0 where
      at : ℕ
      replied : HasReplied at x.0 x.1.1
      in_time : at < y.0

    answered : IsAnswered
    answered =
        let s = history.sequential x.0 y.0 n x.1.0 y.1.0 first_call (calls y (inr (inl refl))) (upward.0 y (inl refl)) in
        let answers : Answers items s.0 x.0 s.1.0 = s.1.1.0 in
        let h : HasReplied s.0 x.0 s.1.0 = record { answers = answers; by = by_caller s.0 x.0 x.1.0 s.1.0 answers first_call } in
        let same = is_first s.0 x.0 s.1.0 h (omega arith) (upward.0 y (inl refl)) in
        record { at = s.0; replied = subst (λ a. HasReplied s.0 x.0 a) (ap (λ (z : Placed). z.1.1) same) h; in_time = s.1.1.1 }

    -- so the one reply between them is the first one's
    next_phase : heard_before c n y.0 phase items ≡ takes c (heard_before c n x.0 phase items) x.1.1
    next_phase = go answered
      where
        go : IsAnswered → heard_before c n y.0 phase items ≡ takes c (heard_before c n x.0 phase items) x.1.1
        go k =
            let before = k.replied.answers.before in
            heard_once c n phase items x.0 k.at y.0 x.1.1 history.rising (omega (arith, before)) k.in_time (reply_at k.at x.0 x.1.1 k.replied) early late
          where
            early : (w : ℕ) (b : Reply) → Has (item.Reply w n b) items → w < k.at → w < x.0
            early w b there lt = by (compare x.0 w) (least x.0 w)
              where
                by : Compared x.0 w → Least x.0 w → w < x.0
                by (same e t) le = absurd (not_there x.0 w x.1.0 b first_call there e)
                by (other ne t) (above lo s) = lo
                by (other ne t) (atmost le s) =
                    let after = k.replied.answers.first w b (subst (λ m. Has (item.Reply w m b) items) (sym k.replied.by) there) (omega (arith, ne, le)) in
                    absurd (omega (arith, after, lt))

            late : (w : ℕ) (b : Reply) → Has (item.Reply w n b) items → k.at < w → y.0 ≤ w
            late w b there lt = by (least y.0 w) (replied w b there)
              where
                by : Least y.0 w → (q : ℕ) × HasReplied w q b → y.0 ≤ w
                by (atmost le s) h = le
                by (above hi s) h =
                    let place : ℕ = h.0 in
                    let own : HasReplied w place b = h.1 in
                    let answers : Answers items w place b = own.answers in
                    let ends = answers.before in
                    let begins = k.replied.answers.before in
                    let low = answers.last x.0 x.1.0 (subst (λ m. Has (item.Call x.0 m x.1.0) items) (sym own.by) first_call) (omega (arith, begins, lt)) in
                    let here : place ≡ x.0 = ap (λ (z : Placed). z.0) (is_first w place b own low (omega (arith, ends, hi))) in
                    let after = answers.first k.at x.1.1 (subst (λ m. Has (item.Reply k.at m x.1.1) items) (sym own.by) (reply_at k.at x.0 x.1.1 k.replied)) (omega (arith, here, begins)) in
                    absurd (omega (arith, after, lt))

    answered_rest : HasAnswered y.0 (y ∷ xs)
    answered_rest at p a answers by low = go (all at p a answers by (let up = upward.0 y (inl refl) in omega (arith, up, low)))
      where
        go : Has (p, (answers.request, a)) (x ∷ y ∷ xs) → Has (p, (answers.request, a)) (y ∷ xs)
        go (inl e) = let here : p ≡ x.0 = ap (λ (z : Placed). z.0) e in let up = upward.0 y (inl refl) in absurd (omega (arith, here, up, low))
        go (inr there) = there

  follows_from : (x : Placed) (xs : List Placed) → AreCalls (x ∷ xs) → AreUpward (x ∷ xs) → HasAnswered x.0 (x ∷ xs)
      → Follows c (heard_before c n x.0 phase items) (x.1 ∷ exchanges_in xs)
  follows_from x [] calls upward all = (asked_at c n phase items x.0 x.1.0 asked history.rising (calls x (inl refl)), tt)
  follows_from x (y ∷ xs) calls upward all = (
    asked_at c n phase items x.0 x.1.0 asked history.rising (calls x (inl refl)),
    subst (λ f. Follows c f (y.1 ∷ exchanges_in xs)) (next_phase x y xs calls upward all)
        (follows_from y xs (λ z at. calls z (inr at)) upward.1 (answered_rest x y xs calls upward all)),
  )

  pub follows_all : (x : Placed) (xs : List Placed) → AreCalls (x ∷ xs) → AreUpward (x ∷ xs) → HasAnswered 0 (x ∷ xs) → Follows c phase (x.1 ∷ exchanges_in xs)
  follows_all x xs calls upward all =
      subst (λ f. Follows c f (x.1 ∷ exchanges_in xs)) (heard_later c n x.0 phase items none)
      (follows_from x xs calls upward (λ at p a answers by low. all at p a answers by (omega arith)))
    where
      none : (w : ℕ) (b : Reply) → Has (item.Reply w n b) items → x.0 ≤ w
      none w b there =
          let found = replied w b there in
          let own : HasReplied w found.0 b = found.1 in
          let ends = own.answers.before in
          go found.0 own ends (all w found.0 b own.answers own.by (omega arith))
        where
          go : (q : ℕ) (own : HasReplied w q b) → q < w → Has (q, (own.answers.request, b)) (x ∷ xs) → x.0 ≤ w
          go q own ends (inl e) = let here : q ≡ x.0 = ap (λ (z : Placed). z.0) e in omega (arith, here, ends)
          go q own ends (inr at) = let up = upward.0 (q, (own.answers.request, b)) at in omega (arith, up, ends)

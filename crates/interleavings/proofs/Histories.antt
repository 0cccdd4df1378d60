-- A history with one more call or reply at its end.
use Rattle.std.proofs.Common.{◌≡◌, ◌≢◌, ℕ, ◌<◌, ◌≤◌, ◌⊎◌, List, [], ◌∷◌, ◌++◌, refl, sym, ap, ◌∙◌, subst, inl, inr, arith}
use Rattle.requests.specs.declared.request.Request.{Request}
use Rattle.requests.specs.declared.reply.Reply.{Reply}
use Rattle.interleavings.specs.declared.trace.Item.{Item}
use Rattle.interleavings.specs.declared.trace.Item.TheVariants as item
use Rattle.interleavings.specs.Linearization.{Answers, AreRising, Has, IsHistory, place_of}
use Rattle.interleavings.proofs.Lists.{has_back, has_front, has_last}
use Rattle.interleavings.proofs.Basics.{Compared, same, other, compare}
use Rattle.interleavings.proofs.Invariant.{AllAnswered, IsLastCall}

-- a call answers nothing
pub answers_before_call : (trace : List Item) (now c : ℕ) (q : Request) → ((i : Item) → Has i trace → place_of i < now) → (at p : ℕ) (r : Reply) → Answers (trace ++ item.Call now c q ∷ []) at p r → Answers trace at p r
answers_before_call trace now c q dated at p r a = go (has_last _ _ trace a.replied) (has_last _ _ trace a.called)
  where
    go : Has (item.Reply at a.caller r) trace ⊎ (item.Reply at a.caller r ≡ item.Call now c q) → Has (item.Call p a.caller a.request) trace ⊎ (item.Call p a.caller a.request ≡ item.Call now c q) → Answers trace at p r
    go (inr e) h = absurd cc
    go (inl m) (inr e) = let l : at < now = dated (item.Reply at a.caller r) m in let k : p ≡ now = cc in let b = a.before in absurd (omega arith)
    go (inl m) (inl h) = record {
      caller = a.caller;
      request = a.request;
      called = h;
      replied = m;
      before = a.before;
      last = λ x y i. a.last x y (has_front _ trace _ i);
      first = λ x y i. a.first x y (has_front _ trace _ i);
    }

-- a reply answers the last call of its caller
pub answers_by_reply : (trace : List Item) (now c place : ℕ) (reply : Reply) → ((i : Item) → Has i trace → place_of i < now) → IsLastCall trace c place → (at p : ℕ) (r : Reply) → Answers (trace ++ item.Reply now c reply ∷ []) at p r → ((now ≡ at) × (place ≡ p) × (reply ≡ r)) ⊎ Answers trace at p r
answers_by_reply trace now c place reply dated latest at p r a = go (has_last _ _ trace a.replied) (has_last _ _ trace a.called)
  where
    same_call : now ≡ at → a.caller ≡ c → Has (item.Call p a.caller a.request) trace → place ≡ p
    same_call en ec h =
        let low : p ≤ place = latest.last p a.request (subst (λ d. Has (item.Call p d a.request) trace) ec h) in
        let old : place < now = dated (item.Call place c latest.request) latest.called in
        let high : place ≤ p = a.last place latest.request (has_front _ trace _ (subst (λ d. Has (item.Call place d latest.request) trace) (sym ec) latest.called)) (omega arith) in
        omega arith

    go : Has (item.Reply at a.caller r) trace ⊎ (item.Reply at a.caller r ≡ item.Reply now c reply) → Has (item.Call p a.caller a.request) trace ⊎ (item.Call p a.caller a.request ≡ item.Reply now c reply) → ((now ≡ at) × (place ≡ p) × (reply ≡ r)) ⊎ Answers trace at p r
    go m (inr e) = absurd cc
    go (inr e) (inl h) = let en : now ≡ at = cc in let ec : a.caller ≡ c = cc in let er : reply ≡ r = cc in inl (en, same_call en ec h, er)
    go (inl m) (inl h) = inr (record {
      caller = a.caller;
      request = a.request;
      called = h;
      replied = m;
      before = a.before;
      last = λ x y i. a.last x y (has_front _ trace _ i);
      first = λ x y i. a.first x y (has_front _ trace _ i);
    })

pub rising_more : (trace : List Item) (now : ℕ) (new : Item) → place_of new ≡ now → ((i : Item) → Has i trace → place_of i < now) → AreRising trace → AreRising (trace ++ new ∷ [])
rising_more [] now new here dated h = (λ j m. absurd m, tt)
rising_more (i ∷ is) now new here dated h = (λ j m. go j (has_last j new is m), rising_more is now new here (λ j m. dated j (inr m)) h.1)
  where
    go : (j : Item) → Has j is ⊎ (j ≡ new) → place_of i < place_of j
    go j (inl m) = h.0 j m
    go j (inr e) = let l : place_of i < now = dated i (inl refl) in let k : place_of j ≡ now = ap place_of e ∙ here in omega arith

-- what was answered stays answered by the same call
pub answers_more : (trace : List Item) (now : ℕ) (new : Item) → place_of new ≡ now → ((i : Item) → Has i trace → place_of i < now) → (at p : ℕ) (r : Reply) → Answers trace at p r → Answers (trace ++ new ∷ []) at p r
answers_more trace now new here dated at p r a = record {
  caller = a.caller;
  request = a.request;
  called = has_front _ trace _ a.called;
  replied = has_front _ trace _ a.replied;
  before = a.before;
  last = λ x y m lt. go x y lt (has_last _ _ trace m);
  first = λ x y m lt. first x y lt (has_last _ _ trace m);
}
  where
    old : at < now
    old = dated (item.Reply at a.caller r) a.replied

    go : (x : ℕ) (y : Request) → x < at → Has (item.Call x a.caller y) trace ⊎ (item.Call x a.caller y ≡ new) → x ≤ p
    go x y lt (inl m) = a.last x y m lt
    go x y lt (inr e) = let l = old in let k : x ≡ now = ap place_of e ∙ here in absurd (omega arith)

    first : (x : ℕ) (y : Reply) → p < x → Has (item.Reply x a.caller y) trace ⊎ (item.Reply x a.caller y ≡ new) → at ≤ x
    first x y lt (inl m) = a.first x y m lt
    first x y lt (inr e) = let l = old in let k : x ≡ now = ap place_of e ∙ here in omega arith

abbrev pub caller_of : Item → ℕ
caller_of (item.Call p c q) = c
caller_of (item.Reply p c r) = c

-- an item of another caller leaves them
pub last_call_more : (trace : List Item) (d p : ℕ) (i : Item) → d ≢ caller_of i → IsLastCall trace d p → IsLastCall (trace ++ i ∷ []) d p
last_call_more trace d p i ne h = record {
  request = h.request;
  called = has_front _ trace _ h.called;
  last = λ x y m. calls x y (has_last _ _ trace m);
  no_reply = λ x y m. replies x y (has_last _ _ trace m);
}
  where
    calls : (x : ℕ) (y : Request) → Has (item.Call x d y) trace ⊎ (item.Call x d y ≡ i) → x ≤ p
    calls x y (inl m) = h.last x y m
    calls x y (inr e) = absurd (ne (ap caller_of e))

    replies : (x : ℕ) (y : Reply) → Has (item.Reply x d y) trace ⊎ (item.Reply x d y ≡ i) → x < p
    replies x y (inl m) = h.no_reply x y m
    replies x y (inr e) = absurd (ne (ap caller_of e))

-- its caller has all its replies, also after an item of another one
pub all_answered_more : (trace : List Item) (now : ℕ) → ((i : Item) → Has i trace → place_of i < now) → (i : Item) → place_of i ≡ now → (d : ℕ) → d ≢ caller_of i → AllAnswered trace d → AllAnswered (trace ++ i ∷ []) d
all_answered_more trace now dated i here d ne h p r m = go (has_last _ _ trace m)
  where
    go : Has (item.Call p d r) trace ⊎ (item.Call p d r ≡ i) → (at : ℕ) × ((reply : Reply) × Answers (trace ++ i ∷ []) at p reply)
    go (inl m) = let a = h p r m in (a.0, (a.1.0, answers_more trace now i here dated a.0 p a.1.0 a.1.1))
    go (inr e) = absurd (ne (ap caller_of e))

module _ (trace : List Item) (now : ℕ) (dated : (i : Item) → Has i trace → place_of i < now) (history : IsHistory trace) where
  -- a call, by a caller that has all its replies
  pub called_history : (c : ℕ) (q : Request) → AllAnswered trace c → IsHistory (trace ++ item.Call now c q ∷ [])
  called_history c q all = record {
    rising = rising_more trace now (item.Call now c q) refl dated history.rising;
    paired = λ at d r m. not_new at d r (has_last _ _ trace m);
    sequential = λ x y d r s m n lt. called_in_turn x y d r s (has_last _ _ trace m) (has_last _ _ trace n) lt;
  }
    where
      not_new : (at d : ℕ) (r : Reply) → Has (item.Reply at d r) trace ⊎ (item.Reply at d r ≡ item.Call now c q) → (p : ℕ) × Answers (trace ++ item.Call now c q ∷ []) at p r
      not_new at d r (inl m) = let a = history.paired at d r m in (a.0, answers_more trace now (item.Call now c q) refl dated at a.0 r a.1)
      not_new at d r (inr e) = absurd cc

      still : (x y at : ℕ) (r : Reply) → Answers trace at x r → at < y → (at : ℕ) × ((reply : Reply) × (Answers (trace ++ item.Call now c q ∷ []) at x reply × (at < y)))
      still x y at r a lt = (at, (r, (answers_more trace now (item.Call now c q) refl dated at x r a, lt)))

      called_in_turn : (x y d : ℕ) (r s : Request) → Has (item.Call x d r) trace ⊎ (item.Call x d r ≡ item.Call now c q) → Has (item.Call y d s) trace ⊎ (item.Call y d s ≡ item.Call now c q) → x < y → (at : ℕ) × ((reply : Reply) × (Answers (trace ++ item.Call now c q ∷ []) at x reply × (at < y)))
      called_in_turn x y d r s (inl m) (inl n) lt = let a = history.sequential x y d r s m n lt in still x y a.0 a.1.0 a.1.1.0 a.1.1.1
      called_in_turn x y d r s (inr e) (inl n) lt = let l : y < now = dated (item.Call y d s) n in let k : x ≡ now = cc in absurd (omega arith)
      called_in_turn x y d r s (inr e) (inr f) lt = let k : x ≡ now = cc in let h : y ≡ now = cc in absurd (omega arith)
      called_in_turn x y d r s (inl m) (inr f) lt =
          let h : y ≡ now = cc in
          let own : d ≡ c = cc in
          let a = all x r (subst (λ d. Has (item.Call x d r) trace) own m) in
          let l : a.0 < now = dated _ a.1.1.replied in
          still x y a.0 a.1.0 a.1.1 (omega arith)

  -- at the reply
  answered_now : (c p : ℕ) (r : Reply) → IsLastCall trace c p → Answers (trace ++ item.Reply now c r ∷ []) now p r
  answered_now c p r latest = record {
    caller = c;
    request = latest.request;
    called = has_front _ trace _ latest.called;
    replied = has_back _ trace _ (inl refl);
    before = dated (item.Call p c latest.request) latest.called;
    last = λ x y m lt. go x y (has_last _ _ trace m);
    first = λ x y m lt. first x y lt (has_last _ _ trace m);
  }
    where
      go : (x : ℕ) (y : Request) → Has (item.Call x c y) trace ⊎ (item.Call x c y ≡ item.Reply now c r) → x ≤ p
      go x y (inl m) = latest.last x y m
      go x y (inr e) = absurd cc

      first : (x : ℕ) (y : Reply) → p < x → Has (item.Reply x c y) trace ⊎ (item.Reply x c y ≡ item.Reply now c r) → now ≤ x
      first x y lt (inl m) = let l = latest.no_reply x y m in absurd (omega arith)
      first x y lt (inr e) = let k : x ≡ now = cc in omega arith

  -- the reply to a caller's last call
  pub replied_history : (c p : ℕ) (r : Reply) → IsLastCall trace c p → IsHistory (trace ++ item.Reply now c r ∷ [])
  replied_history c p r latest = record {
    rising = rising_more trace now (item.Reply now c r) refl dated history.rising;
    paired = λ at d y m. answers_one at d y (has_last _ _ trace m);
    sequential = λ x y d q s m n lt. in_turn x y d q s (has_last _ _ trace m) (has_last _ _ trace n) lt;
  }
    where
      answers_one : (at d : ℕ) (y : Reply) → Has (item.Reply at d y) trace ⊎ (item.Reply at d y ≡ item.Reply now c r) → (x : ℕ) × Answers (trace ++ item.Reply now c r ∷ []) at x y
      answers_one at d y (inl m) = let a = history.paired at d y m in (a.0, answers_more trace now (item.Reply now c r) refl dated at a.0 y a.1)
      answers_one at d y (inr e) = let ea : now ≡ at = cc in let er : r ≡ y = cc in (p, subst (λ n. Answers (trace ++ item.Reply now c r ∷ []) n p y) ea (subst (λ v. Answers (trace ++ item.Reply now c r ∷ []) now p v) er (answered_now c p r latest)))

      in_turn : (x y d : ℕ) (q s : Request) → Has (item.Call x d q) trace ⊎ (item.Call x d q ≡ item.Reply now c r) → Has (item.Call y d s) trace ⊎ (item.Call y d s ≡ item.Reply now c r) → x < y → (at : ℕ) × ((reply : Reply) × (Answers (trace ++ item.Reply now c r ∷ []) at x reply × (at < y)))
      in_turn x y d q s (inl m) (inl n) lt = let a = history.sequential x y d q s m n lt in (a.0, (a.1.0, (answers_more trace now (item.Reply now c r) refl dated a.0 x a.1.0 a.1.1.0, a.1.1.1)))
      in_turn x y d q s (inr e) n lt = absurd cc
      in_turn x y d q s (inl m) (inr f) lt = absurd cc

  -- the last calls of the callers
  pub called_last : (c : ℕ) (q : Request) → IsLastCall (trace ++ item.Call now c q ∷ []) c now
  called_last c q = record {
    request = q;
    called = has_back _ trace _ (inl refl);
    last = λ x y m. calls x y (has_last _ _ trace m);
    no_reply = λ x y m. replies x y (has_last _ _ trace m);
  }
    where
      calls : (x : ℕ) (y : Request) → Has (item.Call x c y) trace ⊎ (item.Call x c y ≡ item.Call now c q) → x ≤ now
      calls x y (inl m) = let l : x < now = dated (item.Call x c y) m in omega arith
      calls x y (inr e) = let l : x ≡ now = cc in omega arith

      replies : (x : ℕ) (y : Reply) → Has (item.Reply x c y) trace ⊎ (item.Reply x c y ≡ item.Call now c q) → x < now
      replies x y (inl m) = dated (item.Reply x c y) m
      replies x y (inr e) = absurd cc

  -- the caller has all its replies now
  pub all_answered : (c p : ℕ) (r : Reply) → IsLastCall trace c p → AllAnswered (trace ++ item.Reply now c r ∷ []) c
  all_answered c p r latest x y m = go (has_last _ _ trace m)
    where
      by_place : Has (item.Call x c y) trace → x ≤ p → Compared x p → (at : ℕ) × ((reply : Reply) × Answers (trace ++ item.Reply now c r ∷ []) at x reply)
      by_place h le (same e b) = (now, (r, subst (λ n. Answers (trace ++ item.Reply now c r ∷ []) now n r) (sym e) (answered_now c p r latest)))
      by_place h le (other ne b) = let a = history.sequential x p c y latest.request h latest.called (omega arith) in (a.0, (a.1.0, answers_more trace now (item.Reply now c r) refl dated a.0 x a.1.0 a.1.1.0))

      go : Has (item.Call x c y) trace ⊎ (item.Call x c y ≡ item.Reply now c r) → (at : ℕ) × ((reply : Reply) × Answers (trace ++ item.Reply now c r ∷ []) at x reply)
      go (inl h) = by_place h (latest.last x y h) (compare x p)
      go (inr e) = absurd cc

-- A trace that was read to its end is a history, and each of its replies is found.
use Rattle.std.proofs.Common.{◌≡◌, ℕ, ◌<◌, ◌≤◌, ◌⊎◌, List, [], ◌∷◌, ◌++◌, Option, Some, None, refl, sym, ap, ◌∙◌, subst, inl, inr, arith}
use Rattle.std.specs.List.{slice_get}
use Rattle.requests.specs.declared.request.Request.{Request}
use Rattle.requests.specs.declared.reply.Reply.{Reply}
use Rattle.interleavings.specs.declared.trace.Item.{Item}
use Rattle.interleavings.specs.declared.trace.Item.TheVariants as item
use Rattle.interleavings.specs.Linearization.{Answers, AreRising, Has, IsHistory, place_of}
use Rattle.order_check.specs.Pairing.{AreFound, IsAfter, IsCall, IsRead, IsReply, IsReplyTo, MayCome, Seen}
use Rattle.interleavings.proofs.Basics.{Compared, same, other, compare}
use Rattle.interleavings.proofs.Histories.{all_answered, all_answered_more, answers_before_call, answers_by_reply, answers_more, called_history, called_last, last_call_more, replied_history}
use Rattle.interleavings.proofs.Invariant.{AllAnswered, IsLastCall}
use Rattle.interleavings.proofs.Lists.{has_back, has_front, has_last}
use Rattle.interleavings.proofs.Places.{one_item}

abbrev pub IsUpTo : Option ℕ → ℕ → Type 0
IsUpTo None place = ⊥
IsUpTo (Some last) place = place ≤ last

-- the trace has been read so far
pub record IsPaired (items trace : List Item) (s : Seen) : Type 0 where
  pub dated : (i : Item) → Has i trace → IsUpTo s.last (place_of i)
  pub ends : (l : ℕ) → s.last ≡ Some l → (i : Item) × (Has i trace × (place_of i ≡ l))
  pub history : IsHistory trace
  pub awaited : (c p : ℕ) → s.awaited c ≡ Some p → IsLastCall trace c p
  pub idle : (c : ℕ) → s.awaited c ≡ None → AllAnswered trace c
  pub found : AreFound items trace s.calls s.answers

pub none_read : (items : List Item) (s : Seen) → s.last ≡ None → ((c : ℕ) → s.awaited c ≡ None) → ((p : ℕ) → s.answers p ≡ None) → IsPaired items [] s
none_read items s first none unanswered = record {
  dated = λ i m. absurd m;
  ends = λ l e. let k : None ≡ Some l = sym first ∙ e in absurd cc;
  history = record { rising = tt; paired = λ at c r m. absurd m; sequential = λ p q c r s m n lt. absurd m };
  awaited = λ c p e. let k : None ≡ Some p = sym (none c) ∙ e in absurd cc;
  idle = λ c e p r m. absurd m;
  found = record {
    called = λ p c r m. absurd m;
    replied = λ at p r a. absurd a.replied;
    right = λ p i e. let k : None ≡ Some i = sym (unanswered p) ∙ e in absurd cc;
  };
}

below : (last : Option ℕ) (place now : ℕ) → IsUpTo last place → IsAfter last now → place < now
below None place now h k = absurd h
below (Some last) place now h k = omega arith

up_to_now : (now : ℕ) (last : Option ℕ) (trace : List Item) (new : Item) → last ≡ Some now → place_of new ≡ now → ((i : Item) → Has i trace → place_of i < now) → (i : Item) → Has i (trace ++ new ∷ []) → IsUpTo last (place_of i)
up_to_now now last trace new e here dated i m = subst (λ l. IsUpTo l (place_of i)) (sym e) (go (has_last i new trace m))
  where
    go : Has i trace ⊎ (i ≡ new) → place_of i ≤ now
    go (inl h) = let l = dated i h in omega arith
    go (inr k) = let l : place_of i ≡ now = ap place_of k ∙ here in omega arith

-- a call that still waits for its reply was not answered
not_answered : (trace : List Item) → IsHistory trace → (c p at : ℕ) (r : Reply) → IsLastCall trace c p → Answers trace at p r → ⊥
not_answered trace history c p at r latest a =
    let one : item.Call p a.caller a.request ≡ item.Call p c latest.request = one_item trace _ _ history.rising a.called latest.called refl in
    let own : a.caller ≡ c = cc in
    let l : at < p = latest.no_reply at r (subst (λ d. Has (item.Reply at d r) trace) own a.replied) in
    let b = a.before in
    omega arith

module _ (items trace : List Item) (s t : Seen) (h : IsPaired items trace s) where
  dated_by : (now : ℕ) → IsAfter s.last now → (i : Item) → Has i trace → place_of i < now
  dated_by now k i m = below s.last (place_of i) now (h.dated i m) k

  put_call : (index now c : ℕ) (q : Request) → slice_get items index ≡ Some (item.Call now c q) → IsCall index now c s t → IsPaired items (trace ++ item.Call now c q ∷ []) t
  put_call index now c q is k = record {
    dated = up_to_now now t.last trace new k.last refl dated;
    ends = λ l e. (new, (has_back new trace _ (inl refl), let all : Some now ≡ Some l = sym k.last ∙ e in let here : now ≡ l = cc in here));
    history = called_history trace now dated h.history c q (h.idle c k.idle);
    awaited = λ d p e. awaited d p e (compare d c);
    idle = λ d e. idle d e (compare d c);
    found = record {
      called = λ p d r m. called p d r (has_last _ _ trace m);
      replied = λ at p r a. let f = h.found.replied at p r (answers_before_call trace now c q dated at p r a) in (f.0, (f.1.0, (ap (λ m. m p) k.answers ∙ f.1.1.0, f.1.1.1)));
      right = λ p i e. let r = h.found.right p i (sym (ap (λ m. m p) k.answers) ∙ e) in record { at = r.at; caller = r.caller; reply = r.reply; is = r.is; answers = answers_more trace now new refl dated r.at p r.reply r.answers };
    };
  }
    where
      new : Item
      new = item.Call now c q

      dated : (i : Item) → Has i trace → place_of i < now
      dated = dated_by now k.rises

      awaited : (d p : ℕ) → t.awaited d ≡ Some p → Compared d c → IsLastCall (trace ++ item.Call now c q ∷ []) d p
      awaited d p e (same ed b) =
          let all : Some now ≡ Some p = sym (ap t.awaited ed ∙ k.awaited.put) ∙ e in
          let ep : now ≡ p = cc in
          subst (λ d. IsLastCall (trace ++ item.Call now c q ∷ []) d p) (sym ed) (subst (λ p. IsLastCall (trace ++ item.Call now c q ∷ []) c p) ep (called_last trace now dated h.history c q))
      awaited d p e (other ne b) = last_call_more trace d p new ne (h.awaited d p (sym (k.awaited.others d ne) ∙ e))

      idle : (d : ℕ) → t.awaited d ≡ None → Compared d c → AllAnswered (trace ++ item.Call now c q ∷ []) d
      idle d e (same ed b) = let all : Some now ≡ None = sym (ap t.awaited ed ∙ k.awaited.put) ∙ e in absurd cc
      idle d e (other ne b) = all_answered_more trace now dated new refl d ne (h.idle d (sym (k.awaited.others d ne) ∙ e))

      called : (p d : ℕ) (r : Request) → Has (item.Call p d r) trace ⊎ (item.Call p d r ≡ item.Call now c q) → (i : ℕ) × ((t.calls p ≡ Some i) × (slice_get items i ≡ Some (item.Call p d r)))
      called p d r (inl m) =
          let f = h.found.called p d r m in
          let l : p < now = dated (item.Call p d r) m in
          (f.0, (k.calls.others p (λ e. omega arith) ∙ f.1.0, f.1.1))
      called p d r (inr e) = (index, (ap t.calls (ap place_of e) ∙ k.calls.put, is ∙ ap Some (sym e)))

  put_reply : (index now c : ℕ) (r : Reply) → slice_get items index ≡ Some (item.Reply now c r) → IsReply index now c s t → IsPaired items (trace ++ item.Reply now c r ∷ []) t
  put_reply index now c r is k = record {
    dated = up_to_now now t.last trace new k.last refl dated;
    ends = λ l e. (new, (has_back new trace _ (inl refl), let all : Some now ≡ Some l = sym k.last ∙ e in let here : now ≡ l = cc in here));
    history = replied_history trace now dated h.history c k.called r latest;
    awaited = λ d p e. awaited d p e (compare d c);
    idle = λ d e. idle d e (compare d c);
    found = record {
      called = λ p d q m. called p d q (has_last _ _ trace m);
      replied = λ at p x a. found at p x (answers_by_reply trace now c k.called r dated latest at p x a);
      right = λ p i e. right p i e (compare p k.called);
    };
  }
    where
      new : Item
      new = item.Reply now c r

      dated : (i : Item) → Has i trace → place_of i < now
      dated = dated_by now k.rises

      latest : IsLastCall trace c k.called
      latest = h.awaited c k.called k.was

      awaited : (d p : ℕ) → t.awaited d ≡ Some p → Compared d c → IsLastCall (trace ++ item.Reply now c r ∷ []) d p
      awaited d p e (same ed b) = let all : None ≡ Some p = sym (ap t.awaited ed ∙ k.awaited.gone) ∙ e in absurd cc
      awaited d p e (other ne b) = last_call_more trace d p new ne (h.awaited d p (sym (k.awaited.others d ne) ∙ e))

      idle : (d : ℕ) → t.awaited d ≡ None → Compared d c → AllAnswered (trace ++ item.Reply now c r ∷ []) d
      idle d e (same ed b) = subst (λ d. AllAnswered (trace ++ item.Reply now c r ∷ []) d) (sym ed) (all_answered trace now dated h.history c k.called r latest)
      idle d e (other ne b) = all_answered_more trace now dated new refl d ne (h.idle d (sym (k.awaited.others d ne) ∙ e))

      Found : ℕ → ℕ → Reply → Type 0
      Found at p x = (i : ℕ) × ((caller : ℕ) × ((t.answers p ≡ Some i) × (slice_get items i ≡ Some (item.Reply at caller x))))

      older : (at p : ℕ) (x : Reply) → Answers trace at p x → Compared p k.called → Found at p x
      older at p x a (same e b) = absurd (not_answered trace h.history c k.called at x latest (subst (λ p. Answers trace at p x) e a))
      older at p x a (other ne b) = let f = h.found.replied at p x a in (f.0, (f.1.0, (k.answers.others p ne ∙ f.1.1.0, f.1.1.1)))

      found : (at p : ℕ) (x : Reply) → ((now ≡ at) × (k.called ≡ p) × (r ≡ x)) ⊎ Answers trace at p x → Found at p x
      found at p x (inl e) = (index, (c, (ap t.answers (sym e.1) ∙ k.answers.put, is ∙ ap (λ n. Some (item.Reply n c r)) e.0 ∙ ap (λ y. Some (item.Reply at c y)) e.2)))
      found at p x (inr a) = older at p x a (compare p k.called)

      called : (p d : ℕ) (q : Request) → Has (item.Call p d q) trace ⊎ (item.Call p d q ≡ item.Reply now c r) → (i : ℕ) × ((t.calls p ≡ Some i) × (slice_get items i ≡ Some (item.Call p d q)))
      called p d q (inl m) = let f = h.found.called p d q m in (f.0, (ap (λ lookups. lookups p) k.calls ∙ f.1.0, f.1.1))
      called p d q (inr e) = absurd cc

      answer_fits : (at : ℕ) (x : Reply) → Answers (trace ++ new ∷ []) at k.called x → ((now ≡ at) × (k.called ≡ k.called) × (r ≡ x)) ⊎ Answers trace at k.called x → IsReplyTo items (trace ++ new ∷ []) index k.called
      answer_fits at x a (inl e) = record { at = at; caller = c; reply = x; is = is ∙ ap (λ n. Some (item.Reply n c r)) e.0 ∙ ap (λ y. Some (item.Reply at c y)) e.2; answers = a }
      answer_fits at x a (inr old) = absurd (not_answered trace h.history c k.called at x latest old)

      answered : IsReplyTo items (trace ++ new ∷ []) index k.called
      answered =
          let a = all_answered trace now dated h.history c k.called r latest k.called latest.request (has_front _ trace _ latest.called) in
          answer_fits a.0 a.1.0 a.1.1 (answers_by_reply trace now c k.called r dated latest a.0 k.called a.1.0 a.1.1)

      right : (p i : ℕ) → t.answers p ≡ Some i → Compared p k.called → IsReplyTo items (trace ++ new ∷ []) i p
      right p i e (same d b) =
          let all : Some index ≡ Some i = sym (ap t.answers d ∙ k.answers.put) ∙ e in
          let ei : index ≡ i = cc in
          subst (λ n. IsReplyTo items (trace ++ new ∷ []) n p) ei (subst (λ n. IsReplyTo items (trace ++ new ∷ []) index n) (sym d) answered)
      right p i e (other ne b) =
          let x = h.found.right p i (sym (k.answers.others p ne) ∙ e) in
          record { at = x.at; caller = x.caller; reply = x.reply; is = x.is; answers = answers_more trace now new refl dated x.at p x.reply x.answers }

  pub put : (index : ℕ) (i : Item) → slice_get items index ≡ Some i → IsRead index i s t → IsPaired items (trace ++ i ∷ []) t
  put index (item.Call now c q) is k = put_call index now c q is k
  put index (item.Reply now c r) is k = put_reply index now c r is k

-- ---- an item that continues a history may come
before_next : (trace rest : List Item) (i j : Item) → AreRising (trace ++ i ∷ rest) → Has j trace → place_of j < place_of i
before_next [] rest i j rising m = absurd m
before_next (x ∷ xs) rest i j rising (inl e) = subst (λ k. place_of k < place_of i) (sym e) (rising.0 i (has_back i xs _ (inl refl)))
before_next (x ∷ xs) rest i j rising (inr m) = before_next xs rest i j rising.1 m

-- what is at an earlier place came before it
came_before : (trace rest : List Item) (i j : Item) → AreRising (trace ++ i ∷ rest) → Has j (trace ++ i ∷ rest) → place_of j < place_of i → Has j trace
came_before [] rest i j rising (inl e) l = let k : place_of j ≡ place_of i = ap place_of e in absurd (omega arith)
came_before [] rest i j rising (inr m) l = let k : place_of i < place_of j = rising.0 j m in absurd (omega arith)
came_before (x ∷ xs) rest i j rising (inl e) l = inl e
came_before (x ∷ xs) rest i j rising (inr m) l = inr (came_before xs rest i j rising.1 m l)

module _ (items trace rest : List Item) (s : Seen) (h : IsPaired items trace s) where
  above : (i : Item) → AreRising (trace ++ i ∷ rest) → (last : Option ℕ) → s.last ≡ last → IsAfter last (place_of i)
  above i rising None e = tt
  above i rising (Some l) e = let w = h.ends l e in let b : place_of w.0 < place_of i = before_next trace rest i w.0 rising w.1.0 in let k = w.1.1 in omega arith

  -- a caller that waits for a reply does not call
  no_call : (now c : ℕ) (q : Request) → IsHistory (trace ++ item.Call now c q ∷ rest) → (p : ℕ) → s.awaited c ≡ Some p → ⊥
  no_call now c q history p e =
      let latest = h.awaited c p e in
      let full = trace ++ item.Call now c q ∷ rest in
      let l : p < now = before_next trace rest (item.Call now c q) (item.Call p c latest.request) history.rising latest.called in
      let a = history.sequential p now c latest.request q (has_front _ trace _ latest.called) (has_back _ trace _ (inl refl)) l in
      let one : item.Call p a.1.1.0.caller a.1.1.0.request ≡ item.Call p c latest.request = one_item full _ _ history.rising a.1.1.0.called (has_front _ trace _ latest.called) refl in
      let own : a.1.1.0.caller ≡ c = cc in
      let m : Has (item.Reply a.0 a.1.1.0.caller a.1.0) trace = came_before trace rest _ _ history.rising a.1.1.0.replied a.1.1.1 in
      let no : a.0 < p = latest.no_reply a.0 a.1.0 (subst (λ d. Has (item.Reply a.0 d a.1.0) trace) own m) in
      let b : p < a.0 = a.1.1.0.before in
      omega arith

  -- a caller that gets a reply waits for one
  no_reply : (now c : ℕ) (r : Reply) → IsHistory (trace ++ item.Reply now c r ∷ rest) → s.awaited c ≡ None → ⊥
  no_reply now c r history e =
      let full = trace ++ item.Reply now c r ∷ rest in
      let a = history.paired now c r (has_back _ trace _ (inl refl)) in
      let one : item.Reply now a.1.caller r ≡ item.Reply now c r = one_item full _ _ history.rising a.1.replied (has_back _ trace _ (inl refl)) refl in
      let own : a.1.caller ≡ c = cc in
      let m : Has (item.Call a.0 a.1.caller a.1.request) trace = came_before trace rest _ _ history.rising a.1.called a.1.before in
      let o = h.idle c e a.0 a.1.request (subst (λ d. Has (item.Call a.0 d a.1.request) trace) own m) in
      let two : item.Call a.0 o.1.1.caller o.1.1.request ≡ item.Call a.0 a.1.caller a.1.request = one_item full _ _ history.rising (has_front _ trace _ o.1.1.called) a.1.called refl in
      let same_caller : o.1.1.caller ≡ a.1.caller = cc in
      let l : o.0 < now = before_next trace rest _ _ history.rising o.1.1.replied in
      let late : now ≤ o.0 = a.1.first o.0 o.1.0 (subst (λ d. Has (item.Reply o.0 d o.1.0) full) same_caller (has_front _ trace _ o.1.1.replied)) o.1.1.before in
      omega arith

  pub may_come : (i : Item) → IsHistory (trace ++ i ∷ rest) → MayCome i s
  may_come (item.Call now c q) history = (above (item.Call now c q) history.rising s.last refl, none (s.awaited c) refl)
    where
      none : (o : Option ℕ) → s.awaited c ≡ o → s.awaited c ≡ None
      none None e = e
      none (Some p) e = absurd (no_call now c q history p e)
  may_come (item.Reply now c r) history = (above (item.Reply now c r) history.rising s.last refl, no_reply now c r history)

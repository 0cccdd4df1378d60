-- A log with one more call or reply.
use Rattle.std.proofs.Common.{◌≡◌, ◌≢◌, ℕ, zero, suc, ◌+◌, ◌<◌, ◌≤◌, ◌⊎◌, List, [], ◌∷◌, ◌++◌, length, Option, Some, None, refl, sym, ap, ◌∙◌, subst, inl, inr, arith, length-append}
use mathlib.Core.Logic.{∥∥₁_map}
use Rattle.std.specs.List.{slice_get}
use Rattle.std.specs.Prelude.{true, Result, Ok, Err, OnErr}
use Rattle.std.specs.Result.{is_err}
use Rattle.std.specs.BTreeMap.{BTreeMap, get, is_at}
use Rattle.std.specs.Map.{lookup}
use Rattle.std.specs.Ordering.{nat_cmp}
use Rattle.requests.specs.declared.request.Request.{Request}
use Rattle.requests.specs.declared.reply.Reply.{Reply}
use Rattle.interleavings.specs.declared.trace.Item.{Item}
use Rattle.interleavings.specs.declared.trace.Item.TheVariants as item
use Rattle.interleavings.specs.Linearization.{Answers, Has, place_of}
use Rattle.interleavings.proofs.Basics.{Compared, same, other, compare}
use Rattle.interleavings.proofs.Lists.{has_back, has_front, has_last, has_cases}
use Rattle.interleavings.proofs.Histories.{answers_more, caller_of, last_call_more}
use Rattle.interleavings.proofs.Invariant.{IsLastCall}
use Rattle.order_check.specs.Lookup.{IsWith, IsWithout}
use Rattle.race_log.specs.declared.stamp.Stamp.{Stamp}
use Rattle.race_log.specs.Logged.{IsNoted, IsOpen, IsStamped, Noted, stamp_for}
use Rattle.race_log.specs.Twice.{reply_at, reply_of}

last_call : (items : List Item) (c p : ℕ) → IsOpen items c p → IsLastCall items c p
last_call items c p h = record { request = h.request; called = h.called; last = h.last; no_reply = h.no_reply }

still_open : (items : List Item) (d p : ℕ) (new : Item) → d ≢ caller_of new → IsOpen items d p → IsOpen (items ++ new ∷ []) d p
still_open items d p new ne h =
    let k = last_call_more items d p new ne (last_call items d p h) in
    record { request = k.request; called = k.called; last = k.last; no_reply = k.no_reply }

-- the last item, and the others, are found as before
slice_get-last : {A : Type 0} (xs : List A) (y : A) → slice_get (xs ++ y ∷ []) (length xs) ≡ Some y
slice_get-last [] y = refl
slice_get-last (x ∷ xs) y = slice_get-last xs y

slice_get-front : {A : Type 0} (xs : List A) (y x : A) (i : ℕ) → slice_get xs i ≡ Some x → slice_get (xs ++ y ∷ []) i ≡ Some x
slice_get-front [] y x i e = absurd cc
slice_get-front (z ∷ xs) y x zero e = e
slice_get-front (z ∷ xs) y x (suc i) e = slice_get-front xs y x i e

reply_of-more : (items : List Item) (new : Item) (at : ℕ) (o : Option Item) (reply : Reply) → slice_get items at ≡ o → reply_of o ≡ Some reply
    → reply_at (items ++ new ∷ []) at ≡ Some reply
reply_of-more items new at None reply found is = absurd cc
reply_of-more items new at (Some i) reply found is = ap reply_of (slice_get-front items new i at found) ∙ is

module _ (n : Noted) (h : IsNoted n) where
  still_stamped : (new : Item) → place_of new ≡ length n.items → (s : Stamp) → IsStamped n.items s → IsStamped (n.items ++ new ∷ []) s
  still_stamped new here s k = record {
    reply = k.reply;
    is = reply_of-more n.items new s.reply _ k.reply refl k.is;
    follows = k.follows;
    answers = answers_more n.items (length n.items) new here h.placed s.reply s.call k.reply k.answers;
  }

  placed_more : (new : Item) → place_of new ≡ length n.items → (i : Item) → Has i (n.items ++ new ∷ []) → place_of i < length (n.items ++ new ∷ [])
  placed_more new here i m = go (has_last i new n.items m)
    where
      longer : length (n.items ++ new ∷ []) ≡ length n.items + 1
      longer = length-append n.items (new ∷ [])

      go : Has i n.items ⊎ (i ≡ new) → place_of i < length (n.items ++ new ∷ [])
      go (inl k) = let l = h.placed i k in let e = longer in omega arith
      go (inr k) = let l : place_of i ≡ length n.items = ap place_of k ∙ here in let e = longer in omega arith

  -- a call
  pub noted_call : (t : Noted) (c : ℕ) (q : Request) → t.items ≡ n.items ++ item.Call (length n.items) c q ∷ [] → IsWith c (length n.items) n.open_calls t.open_calls
      → t.stamps ≡ n.stamps → IsNoted t
  noted_call t c q items opened stamps = record {
    placed = subst (λ is. (i : Item) → Has i is → place_of i < length is) (sym items) (placed_more new refl);
    waits = λ d p e. subst (λ is. IsOpen is d p) (sym items) (waits d p e (compare d c));
    stamped = λ s m. subst (λ is. IsStamped is s) (sym items) (still_stamped new refl s (h.stamped s (subst (Has s) stamps m)));
  }
    where
      new : Item
      new = item.Call (length n.items) c q

      now_open : IsOpen (n.items ++ item.Call (length n.items) c q ∷ []) c (length n.items)
      now_open = record {
        request = q;
        called = has_back _ n.items _ (inl refl);
        last = λ p r m. last p r (has_last _ _ n.items m);
        no_reply = λ p r m. no_reply p r (has_last _ _ n.items m);
      }
        where
          last : (p : ℕ) (r : Request) → Has (item.Call p c r) n.items ⊎ (item.Call p c r ≡ item.Call (length n.items) c q) → p ≤ length n.items
          last p r (inl m) = let l : p < length n.items = h.placed (item.Call p c r) m in omega arith
          last p r (inr e) = let l : p ≡ length n.items = cc in omega arith

          no_reply : (p : ℕ) (r : Reply) → Has (item.Reply p c r) n.items ⊎ (item.Reply p c r ≡ item.Call (length n.items) c q) → p < length n.items
          no_reply p r (inl m) = h.placed (item.Reply p c r) m
          no_reply p r (inr e) = absurd cc

      waits : (d p : ℕ) → t.open_calls d ≡ Some p → Compared d c → IsOpen (n.items ++ item.Call (length n.items) c q ∷ []) d p
      waits d p e (same is b) =
          let all : Some (length n.items) ≡ Some p = sym (ap t.open_calls is ∙ opened.put) ∙ e in
          let ep : length n.items ≡ p = cc in
          subst (λ d. IsOpen (n.items ++ item.Call (length n.items) c q ∷ []) d p) (sym is)
          (subst (λ p. IsOpen (n.items ++ item.Call (length n.items) c q ∷ []) c p) ep now_open)
      waits d p e (other ne b) = still_open n.items d p (item.Call (length n.items) c q) ne (h.waits d p (sym (opened.others d ne) ∙ e))

  -- the reply to the last call of its caller
  answered_now : (c p : ℕ) (r : Reply) → IsOpen n.items c p → Answers (n.items ++ item.Reply (length n.items) c r ∷ []) (length n.items) p r
  answered_now c p r k = record {
    caller = c;
    request = k.request;
    called = has_front _ n.items _ k.called;
    replied = has_back _ n.items _ (inl refl);
    before = h.placed (item.Call p c k.request) k.called;
    last = λ x y m lt. last x y (has_last _ _ n.items m);
    first = λ x y m lt. first x y lt (has_last _ _ n.items m);
  }
    where
      last : (x : ℕ) (y : Request) → Has (item.Call x c y) n.items ⊎ (item.Call x c y ≡ item.Reply (length n.items) c r) → x ≤ p
      last x y (inl m) = k.last x y m
      last x y (inr e) = absurd cc

      first : (x : ℕ) (y : Reply) → p < x → Has (item.Reply x c y) n.items ⊎ (item.Reply x c y ≡ item.Reply (length n.items) c r) → length n.items ≤ x
      first x y lt (inl m) = let l = k.no_reply x y m in absurd (omega arith)
      first x y lt (inr e) = let l : x ≡ length n.items = cc in omega arith

  stamped_now : (c number : ℕ) (r : Reply) (o : Option ℕ) → n.open_calls c ≡ o → (s : Stamp) → Has s (stamp_for o number (length n.items) r)
      → IsStamped (n.items ++ item.Reply (length n.items) c r ∷ []) s
  stamped_now c number r None is s m = absurd m
  stamped_now c number r (Some p) is s (inr m) = absurd m
  stamped_now c number r (Some p) is s (inl e) =
      subst (IsStamped (n.items ++ item.Reply (length n.items) c r ∷ [])) (sym e) (record {
        reply = r;
        is = ap reply_of (slice_get-last n.items (item.Reply (length n.items) c r));
        follows = refl;
        answers = answered_now c p r (h.waits c p is);
      })

  -- a reply
  pub noted_reply : (t : Noted) (c number : ℕ) (r : Reply) → t.items ≡ n.items ++ item.Reply (length n.items) c r ∷ [] → IsWithout c n.open_calls t.open_calls
      → t.stamps ≡ n.stamps ++ stamp_for (n.open_calls c) number (length n.items) r → IsNoted t
  noted_reply t c number r items heard stamps = record {
    placed = subst (λ is. (i : Item) → Has i is → place_of i < length is) (sym items) (placed_more (item.Reply (length n.items) c r) refl);
    waits = λ d p e. subst (λ is. IsOpen is d p) (sym items) (waits d p e (compare d c));
    stamped = λ s m. subst (λ is. IsStamped is s) (sym items) (stamped s (has_cases s n.stamps _ (subst (Has s) stamps m)));
  }
    where
      waits : (d p : ℕ) → t.open_calls d ≡ Some p → Compared d c → IsOpen (n.items ++ item.Reply (length n.items) c r ∷ []) d p
      waits d p e (same is b) = let all : None ≡ Some p = sym (ap t.open_calls is ∙ heard.gone) ∙ e in absurd cc
      waits d p e (other ne b) = still_open n.items d p (item.Reply (length n.items) c r) ne (h.waits d p (sym (heard.others d ne) ∙ e))

      stamped : (s : Stamp) → Has s n.stamps ⊎ Has s (stamp_for (n.open_calls c) number (length n.items) r)
          → IsStamped (n.items ++ item.Reply (length n.items) c r ∷ []) s
      stamped s (inl m) = still_stamped (item.Reply (length n.items) c r) refl s (h.stamped s m)
      stamped s (inr m) = stamped_now c number r (n.open_calls c) refl s m

noted_same : (n t : Noted) → IsNoted n → t.items ≡ n.items → ((c : ℕ) → t.open_calls c ≡ n.open_calls c) → t.stamps ≡ n.stamps → IsNoted t
noted_same n t h items waiting stamps = record {
  placed = subst (λ is. (i : Item) → Has i is → place_of i < length is) (sym items) h.placed;
  waits = λ c p e. subst (λ is. IsOpen is c p) (sym items) (h.waits c p (sym (waiting c) ∙ e));
  stamped = λ s m. subst (λ is. IsStamped is s) (sym items) (h.stamped s (subst (Has s) stamps m));
}

-- ---- the same of what is merely known

pub same_merely : (n t : Noted) → ∥ IsNoted n ∥₁ → t.items ≡ n.items → ((c : ℕ) → t.open_calls c ≡ n.open_calls c) → t.stamps ≡ n.stamps → ∥ IsNoted t ∥₁
same_merely n t noted items waiting stamps = ∥∥₁_map noted (λ h. noted_same n t h items waiting stamps)

pub call_merely : (n t : Noted) (c : ℕ) (q : Request) → ∥ IsNoted n ∥₁ → t.items ≡ n.items ++ item.Call (length n.items) c q ∷ []
    → IsWith c (length n.items) n.open_calls t.open_calls → t.stamps ≡ n.stamps → ∥ IsNoted t ∥₁
call_merely n t c q noted items opened stamps = ∥∥₁_map noted (λ h. noted_call n h t c q items opened stamps)

pub reply_merely : (n t : Noted) (c number : ℕ) (r : Reply) → ∥ IsNoted n ∥₁ → t.items ≡ n.items ++ item.Reply (length n.items) c r ∷ []
    → IsWithout c n.open_calls t.open_calls → t.stamps ≡ n.stamps ++ stamp_for (n.open_calls c) number (length n.items) r → ∥ IsNoted t ∥₁
reply_merely n t c number r noted items heard stamps = ∥∥₁_map noted (λ h. noted_reply n h t c number r items heard stamps)

-- ---- what a call says that failed, or did not

pub err_holds : {A E : Type 0} (r : Result A E) (P : Type 0) → is_err r ≡ true → OnErr r P → P
err_holds (Ok x) P is h = absurd cc
err_holds (Err e) P is h = h

pub unchanged_get : (m n : BTreeMap ℕ ℕ) → n.entries ≡ m.entries → (c : ℕ) → get nat_cmp n c ≡ get nat_cmp m c
unchanged_get m n entries c = ap (λ es. lookup (is_at (nat_cmp c)) es) entries

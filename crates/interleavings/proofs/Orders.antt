-- The order still explains the trace after a change.
use Rattle.std.proofs.Common.{◌≡◌, ◌≢◌, ℕ, suc, ◌<◌, ◌⊎◌, List, [], ◌∷◌, ◌++◌, refl, sym, ap, ◌∙◌, subst, inl, inr, arith}
use Rattle.requests.specs.declared.request.Request.{Request}
use Rattle.requests.specs.declared.reply.Reply.{Reply}
use Rattle.interleavings.specs.declared.trace.Item.{Item}
use Rattle.interleavings.specs.declared.trace.Item.TheVariants as item
use Rattle.interleavings.specs.World.{Phase, Idle, Called, Holding, Drawn, Waiting, Reading, Gone, Size, changed}
use Rattle.interleavings.specs.Linearization.{Answers, Has, place_of}
use Rattle.interleavings.proofs.Lists.{has_back, has_front, has_last}
use Rattle.interleavings.proofs.Jobs.{InTime, Job, Tells}
use Rattle.interleavings.proofs.Basics.{Compared, same, other, compare, changed-same, changed-other}
use Rattle.interleavings.proofs.Histories.{all_answered_more, answers_before_call, answers_by_reply, called_history, caller_of, last_call_more, replied_history}
use Rattle.interleavings.proofs.Invariant.{AllAnswered, Aside, Explains, Fate, IsLastCall, Known, Live, New, Opens, Placed, Queued, Status}

pub live-placed : (c : ℕ) → Live c ≢ Placed
live-placed c h = cc

pub aside-placed : Aside ≢ Placed
aside-placed h = cc

pub queued-placed : (i : ℕ) → Queued i ≢ Placed
queued-placed i h = cc

-- two statuses at two places: the change of one leaves the other
pub fate_other : (φ : ℕ → Fate) (p x : ℕ) (q y : Request) (st st' : Status) (v : Fate) → φ p ≡ Known q st → φ x ≡ Known y st' → st ≢ st' → changed φ p v x ≡ Known y st'
fate_other φ p x q y st st' v hp hx ne =
    changed-other φ p v x (λ e. let all : Known q st ≡ Known y st' = sym hp ∙ ap φ (sym e) ∙ hx in let k : st ≡ st' = cc in ne k) ∙ hx

pub tells_has : (z : Size) (o : List Job) (p : ℕ) (r : Reply) → Tells z o p r → (d : Job) × (Has d o × (d.place ≡ p))
tells_has z [] p r h = absurd h
tells_has z (j ∷ js) p r (inl h) = (j, (inl refl, h.0))
tells_has z (j ∷ js) p r (inr h) = let t = tells_has z js p r h in (t.0, (inr t.1.0, t.1.1))

-- what is known of the places when one changes its status
known_put : (trace : List Item) (now : ℕ) (φ : ℕ → Fate) (p : ℕ) (q : Request) (st st' : Status) → ((x : ℕ) (y : Request) (s : Status) → φ x ≡ Known y s → (x < now) × ((c : ℕ) × Has (item.Call x c y) trace)) → φ p ≡ Known q st → (x : ℕ) (y : Request) (s : Status) → changed φ p (Known q st') x ≡ Known y s → (x < now) × ((c : ℕ) × Has (item.Call x c y) trace)
known_put trace now φ p q st st' known h x y s e = go (compare x p)
  where
    go : Compared x p → (x < now) × ((c : ℕ) × Has (item.Call x c y) trace)
    go (same ep b) =
        let all : Known q st' ≡ Known y s = sym (ap (changed φ p (Known q st')) ep ∙ changed-same φ p (Known q st')) ∙ e in
        let eq : q ≡ y = cc in
        known x y st (ap φ ep ∙ h ∙ ap (λ v. Known v st) eq)
    go (other ne b) = known x y s (sym (changed-other φ p (Known q st') x ne) ∙ e)

-- what is in the order was called before a reply that comes now
in_time_more : (trace trace' : List Item) (now : ℕ) (js : List Job) → ((at p : ℕ) (r : Reply) → Answers trace' at p r → (now ≡ at) ⊎ Answers trace at p r) → ((d : Job) → Has d js → d.place < now) → InTime trace js → InTime trace' js
in_time_more trace trace' now [] old below h = tt
in_time_more trace trace' now (j ∷ js) old below h = (λ d m at r a. go d m at r (old at j.place r a), in_time_more trace trace' now js old (λ d m. below d (inr m)) h.1)
  where
    go : (d : Job) → Has d js → (at : ℕ) (r : Reply) → (now ≡ at) ⊎ Answers trace at j.place r → d.place < at
    go d m at r (inl e) = let l : d.place < now = below d (inr m) in omega arith
    go d m at r (inr a) = h.0 d m at r a

module _ (z : Size) (trace : List Item) (now : ℕ) (o : List Job) (φ : ℕ → Fate) (g : Explains z trace now o φ) where
  -- a request is put at the end of the order
  pub emit : (j : Job) (st : Status) → φ j.place ≡ Known j.request st → st ≢ Placed → Explains z trace now (j ∷ o) (changed φ j.place (Known j.request Placed))
  emit j st h ne = record {
    listed = listed_more;
    once = (λ d m e. let all : Known d.request Placed ≡ Known j.request st = sym (g.listed d m) ∙ ap φ e ∙ h in let k : st ≡ Placed = cc in ne k, g.once);
    in_time = (λ d m at r a. absurd (not_told at r a), g.in_time);
    known = known_put trace now φ j.place j.request st Placed g.known h;
    answered = λ at p r m. inr (g.answered at p r m);
    dated = g.dated;
    history = g.history;
  }
    where
      listed_more : (d : Job) → (d ≡ j) ⊎ Has d o → changed φ j.place (Known j.request Placed) d.place ≡ Known d.request Placed
      listed_more d (inl e) = ap (λ (x : Job). changed φ j.place (Known j.request Placed) x.place) e ∙ changed-same φ j.place (Known j.request Placed) ∙ ap (λ (x : Job). Known x.request Placed) (sym e)
      listed_more d (inr m) = fate_other φ j.place d.place j.request d.request st Placed (Known j.request Placed) h (g.listed d m) ne

      not_told : (at : ℕ) (r : Reply) → Answers trace at j.place r → ⊥
      not_told at r a =
          let t = tells_has z o j.place r (g.answered at j.place r a) in
          let all : Known (t.0).request Placed ≡ Known j.request st = sym (g.listed t.0 t.1.0) ∙ ap φ t.1.1 ∙ h in
          let k : st ≡ Placed = cc in ne k

  -- a request outside the order changes its status
  pub refate : (p : ℕ) (q : Request) (st st' : Status) → φ p ≡ Known q st → st ≢ Placed → Explains z trace now o (changed φ p (Known q st'))
  refate p q st st' h ne = record {
    listed = λ d m. fate_other φ p d.place q d.request st Placed (Known q st') h (g.listed d m) ne;
    once = g.once;
    in_time = g.in_time;
    known = known_put trace now φ p q st st' g.known h;
    answered = g.answered;
    dated = g.dated;
    history = g.history;
  }

  pub later_on : Explains z trace (suc now) o φ
  later_on = record {
    listed = g.listed;
    once = g.once;
    in_time = g.in_time;
    known = λ p q st h. let k = g.known p q st h in (let l : p < now = k.0 in omega arith, k.1);
    answered = g.answered;
    dated = λ i m. let l = g.dated i m in omega arith;
    history = g.history;
  }

  pub now_new : φ now ≡ New
  now_new = go (φ now) refl
    where
      go : (f : Fate) → φ now ≡ f → φ now ≡ New
      go New e = e
      go (Known q st) e = let l : now < now = (g.known now q st e).0 in absurd (omega arith)

  place_below : (d : Job) → Has d o → d.place < now
  place_below d m = (g.known d.place d.request Placed (g.listed d m)).0

  dated_more : (new : Item) → place_of new ≡ now → (i : Item) → Has i (trace ++ new ∷ []) → place_of i < suc now
  dated_more new e i m = go (has_last i new trace m)
    where
      go : Has i trace ⊎ (i ≡ new) → place_of i < suc now
      go (inl h) = let l = g.dated i h in omega arith
      go (inr h) = let l : place_of i ≡ now = ap place_of h ∙ e in omega arith

  -- a call
  pub asked : (c : ℕ) (q : Request) → AllAnswered trace c → Explains z (trace ++ item.Call now c q ∷ []) (suc now) o (changed φ now (Known q (Live c)))
  asked c q all = record {
    listed = λ d m. changed-other φ now (Known q (Live c)) d.place (λ e. let l = place_below d m in absurd (omega arith)) ∙ g.listed d m;
    once = g.once;
    in_time = in_time_more trace _ now o (λ at p r a. inr (answers_before_call trace now c q g.dated at p r a)) place_below g.in_time;
    known = λ p y st e. go p y st e (compare p now);
    answered = λ at p r a. g.answered at p r (answers_before_call trace now c q g.dated at p r a);
    dated = dated_more (item.Call now c q) refl;
    history = called_history trace now g.dated g.history c q all;
  }
    where
      go : (p : ℕ) (y : Request) (st : Status) → changed φ now (Known q (Live c)) p ≡ Known y st → Compared p now → (p < suc now) × ((d : ℕ) × Has (item.Call p d y) (trace ++ item.Call now c q ∷ []))
      go p y st e (same ep b) =
          let all : Known q (Live c) ≡ Known y st = sym (ap (changed φ now (Known q (Live c))) ep ∙ changed-same φ now (Known q (Live c))) ∙ e in
          let eq : q ≡ y = cc in
          let call : item.Call p c y ≡ item.Call now c q = ap (λ n. item.Call n c y) ep ∙ ap (item.Call now c) (sym eq) in
          (omega arith, (c, has_back _ trace _ (inl call)))
      go p y st e (other ne b) =
          let k = g.known p y st (sym (changed-other φ now (Known q (Live c)) p ne) ∙ e) in
          (let l : p < now = k.0 in omega arith, (k.1.0, has_front _ trace _ k.1.1))

  -- a reply
  pub replied_now : (c p : ℕ) (r : Reply) → IsLastCall trace c p → Tells z o p r → Explains z (trace ++ item.Reply now c r ∷ []) (suc now) o φ
  replied_now c p r latest t = record {
    listed = g.listed;
    once = g.once;
    in_time = in_time_more trace _ now o (λ at x y a. old at x y (answers_by_reply trace now c p r g.dated latest at x y a)) place_below g.in_time;
    known = λ x y st e. let k = g.known x y st e in (let l : x < now = k.0 in omega arith, (k.1.0, has_front _ trace _ k.1.1));
    answered = λ at x y a. told_now at x y (answers_by_reply trace now c p r g.dated latest at x y a);
    dated = dated_more (item.Reply now c r) refl;
    history = replied_history trace now g.dated g.history c p r latest;
  }
    where
      old : (at x : ℕ) (y : Reply) → ((now ≡ at) × (p ≡ x) × (r ≡ y)) ⊎ Answers trace at x y → (now ≡ at) ⊎ Answers trace at x y
      old at x y (inl h) = inl h.0
      old at x y (inr a) = inr a

      told_now : (at x : ℕ) (y : Reply) → ((now ≡ at) × (p ≡ x) × (r ≡ y)) ⊎ Answers trace at x y → Tells z o x y
      told_now at x y (inl h) = subst (λ v. Tells z o x v) h.2 (subst (λ n. Tells z o n r) h.1 t)
      told_now at x y (inr a) = g.answered at x y a

pub opens_more : (trace : List Item) (now : ℕ) → ((i : Item) → Has i trace → place_of i < now) → (i : Item) → place_of i ≡ now → (d : ℕ) → d ≢ caller_of i → (ph : Phase) → Opens trace d ph → Opens (trace ++ i ∷ []) d ph
opens_more trace now dated i here d ne Idle h = all_answered_more trace now dated i here d ne h
opens_more trace now dated i here d ne (Called p q) h = last_call_more trace d p i ne h
opens_more trace now dated i here d ne (Holding t) h = last_call_more trace d t.place i ne h
opens_more trace now dated i here d ne (Drawn x) h = last_call_more trace d x.writing.place i ne h
opens_more trace now dated i here d ne (Waiting s p r) h = last_call_more trace d p i ne h
opens_more trace now dated i here d ne (Reading n p q parts found) h = last_call_more trace d p i ne h
opens_more trace now dated i here d ne (Gone left) h = tt

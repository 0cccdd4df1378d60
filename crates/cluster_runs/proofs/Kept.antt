-- What holds while controllers send requests as callers: each caller with an incarnation has sent what its controller
-- was to send, each controller's phase is that after its caller's replies, no two callers have one incarnation, and a
-- caller that was not used has done nothing.
use Rattle.std.proofs.Common.{◌≡◌, ◌≢◌, ◌≤◌, ◌<◌, ◌==◌, ◌+◌, inl, inr, ℕ, Bool, true, false, cond, List, [], ◌∷◌, ◌++◌, Option, Some, refl, sym, ap, subst, ◌∙◌, true≢false, ne_eqb, arith}
use Rattle.std.specs.Prelude.{◌||◌}
use Rattle.std.specs.List.{list_any}
use Rattle.std.proofs.lemmas.Option.{same_Some}
use Rattle.requests.specs.declared.request.Request.{Request}
use Rattle.requests.specs.declared.reply.Reply.{Reply}
use Rattle.interleavings.specs.declared.trace.Item.{Item}
use Rattle.interleavings.specs.declared.trace.Item.TheVariants as item
use Rattle.interleavings.specs.Linearization.{Has}
use Rattle.interleavings.proofs.Basics.{Compared, same, other, compare, eq_self}
use Rattle.interleavings.proofs.Histories.{caller_of}
use Rattle.interleavings.proofs.Lists.{has_last}
use Rattle.rounds.specs.Phase.{Phase, reading_set, takes}
use Rattle.rounds.specs.Reconciler.{Reconciler}
use Rattle.rounds.specs.Transcript.{Incarnation}
use Rattle.rounds.specs.World.{put}
use Rattle.cluster_runs.proofs.Heard.{HasAsked, asked_call, asked_nothing, asked_reply, heard, heard_call, heard_nothing, heard_reply, next_asked}

pub put_same : {X : Type 0} (f : ℕ → X) (n : ℕ) (x : X) → put f n x n ≡ x
put_same f n x = ap (λ b. cond b x (f n)) (eq_self n)

pub put_other : {X : Type 0} (f : ℕ → X) (n : ℕ) (x : X) (i : ℕ) → i ≢ n → put f n x i ≡ f i
put_other f n x i ne = ap (λ b. cond b x (f i)) (ne_eqb i n ne)

abbrev pub among : List ℕ → ℕ → Bool
among used n = list_any (λ m. m == n) used

pub record IsKept (reconcilers : ℕ → Reconciler) (count : ℕ) (phases : ℕ → Phase) (crashes callers : ℕ → ℕ) (used : List ℕ) (incarnations : ℕ → Option Incarnation) (items : List Item) : Type 0 where
  pub asked : (n : ℕ) (incarnation : Incarnation) → incarnations n ≡ Some incarnation → HasAsked (reconcilers incarnation.controller) n reading_set items
  pub phases_are : (c : ℕ) → c < count → phases c ≡ heard (reconcilers c) (callers c) reading_set items
  pub live : (c : ℕ) → c < count → incarnations (callers c) ≡ Some (record { controller = c; crashes = crashes c })
  pub born : (n : ℕ) (incarnation : Incarnation) → incarnations n ≡ Some incarnation → incarnation.crashes ≤ crashes incarnation.controller
  pub alone : (n m : ℕ) (incarnation : Incarnation) → incarnations n ≡ Some incarnation → incarnations m ≡ Some incarnation → n ≡ m
  pub known : (n : ℕ) (incarnation : Incarnation) → incarnations n ≡ Some incarnation → among used n ≡ true
  pub seen : (i : Item) → Has i items → among used (caller_of i) ≡ true

module _ (reconcilers : ℕ → Reconciler) (count : ℕ) (phases : ℕ → Phase) (crashes callers : ℕ → ℕ) (used : List ℕ) (incarnations : ℕ → Option Incarnation) (items : List Item)
    (kept : IsKept reconcilers count phases crashes callers used incarnations items) where
  seen_more : (new : Item) → among used (caller_of new) ≡ true → (i : Item) → Has i (items ++ new ∷ []) → among used (caller_of i) ≡ true
  seen_more new is i at = elim (has_last i new items at) [
    | inl there ↦ kept.seen i there
    | inr e ↦ ap (λ j. among used (caller_of j)) e ∙ is
  ]

  pub call_kept : (x n : ℕ) (r : Request) → among used n ≡ true
      → ((incarnation : Incarnation) → incarnations n ≡ Some incarnation → r ≡ next_asked (reconcilers incarnation.controller) n items)
      → IsKept reconcilers count phases crashes callers used incarnations (items ++ item.Call x n r ∷ [])
  call_kept x n r is asked = record {
    asked = λ m incarnation has. asked_call (reconcilers incarnation.controller) m reading_set items x n r (kept.asked m incarnation has)
        (λ e. subst (λ i. r ≡ next_asked (reconcilers incarnation.controller) i items) e (asked incarnation (ap incarnations e ∙ has)));
    phases_are = λ c low. kept.phases_are c low ∙ sym (heard_call (reconcilers c) (callers c) reading_set items x n r);
    live = kept.live;
    born = kept.born;
    alone = kept.alone;
    known = kept.known;
    seen = seen_more (item.Call x n r) is;
  }

  pub reply_kept : (x n : ℕ) (a : Reply) (now : ℕ → Phase) → among used n ≡ true
      → ((c : ℕ) → c < count → now c ≡ cond (n == callers c) (takes (reconcilers c) (phases c) a) (phases c))
      → IsKept reconcilers count now crashes callers used incarnations (items ++ item.Reply x n a ∷ [])
  reply_kept x n a now is goes = record {
    asked = λ m incarnation has. asked_reply (reconcilers incarnation.controller) m reading_set items x n a (kept.asked m incarnation has);
    phases_are = λ c low.
        goes c low ∙ ap (λ phase. cond (n == callers c) (takes (reconcilers c) phase a) phase) (kept.phases_are c low)
        ∙ sym (heard_reply (reconcilers c) (callers c) reading_set items x n a);
    live = kept.live;
    born = kept.born;
    alone = kept.alone;
    known = kept.known;
    seen = seen_more (item.Reply x n a) is;
  }

  still_among : (n m : ℕ) → among used m ≡ true → among (n ∷ used) m ≡ true
  still_among n m is = go (n == m) is
    where
      go : (b : Bool) → among used m ≡ true → (b || among used m) ≡ true
      go true at = refl
      go false at = at

  pub used_kept : (n : ℕ) → IsKept reconcilers count phases crashes callers (n ∷ used) incarnations items
  used_kept n = record {
    asked = kept.asked;
    phases_are = kept.phases_are;
    live = kept.live;
    born = kept.born;
    alone = kept.alone;
    known = λ m incarnation has. still_among n m (kept.known m incarnation has);
    seen = λ i at. still_among n (caller_of i) (kept.seen i at);
  }

  -- ---- another incarnation of a controller, as a caller that was not used
  module _ (c n : ℕ) (fresh : among used n ≡ false) where
    abbrev pub next_incarnation : Incarnation
    next_incarnation = record { controller = c; crashes = crashes c + 1 }

    not_used : (m : ℕ) → among used m ≡ true → m ≢ n
    not_used m is e = true≢false (sym is ∙ ap (among used) e ∙ fresh)

    silent : (i : Item) → Has i items → caller_of i ≢ n
    silent i at = not_used (caller_of i) (kept.seen i at)

    -- whose incarnation it is, after the crash
    data Whose (m : ℕ) (incarnation : Incarnation) : Type 0 where
      new : m ≡ n → incarnation ≡ next_incarnation → Whose m incarnation
      old : m ≢ n → incarnations m ≡ Some incarnation → Whose m incarnation

    whose : (m : ℕ) (incarnation : Incarnation) → put incarnations n (Some next_incarnation) m ≡ Some incarnation → Whose m incarnation
    whose m incarnation is = go (compare m n)
      where
        go : Compared m n → Whose m incarnation
        go (same e b) = new e (same_Some incarnation next_incarnation (sym is ∙ ap (put incarnations n (Some next_incarnation)) e ∙ put_same incarnations n (Some next_incarnation)))
        go (other ne b) = old ne (sym (put_other incarnations n (Some next_incarnation) m ne) ∙ is)

    pub crash_kept : IsKept reconcilers count (put phases c reading_set) (put crashes c (crashes c + 1)) (put callers c n) (n ∷ used) (put incarnations n (Some next_incarnation)) items
    crash_kept = record {
      asked = λ m incarnation is. asked m incarnation (whose m incarnation is);
      phases_are = λ i low. stands i low (compare i c);
      live = λ i low. compares_on i low (compare i c);
      born = λ m incarnation is. born m incarnation (whose m incarnation is);
      alone = λ m k incarnation is also. alone m k incarnation (whose m incarnation is) (whose k incarnation also);
      known = λ m incarnation is. known m incarnation (whose m incarnation is);
      seen = λ i at. still_among n (caller_of i) (kept.seen i at);
    }
      where
        asked : (m : ℕ) (incarnation : Incarnation) → Whose m incarnation → HasAsked (reconcilers incarnation.controller) m reading_set items
        asked m incarnation (new e f) = asked_nothing (reconcilers incarnation.controller) m reading_set items (λ i at g. silent i at (g ∙ e))
        asked m incarnation (old ne is) = kept.asked m incarnation is

        stands : (i : ℕ) → i < count → Compared i c → put phases c reading_set i ≡ heard (reconcilers i) (put callers c n i) reading_set items
        stands i low (same e b) =
            ap (λ t. cond t reading_set (phases i)) b ∙ sym (heard_nothing (reconcilers i) n reading_set items silent)
            ∙ ap (λ t. heard (reconcilers i) (cond t n (callers i)) reading_set items) (sym b)
        stands i low (other ne b) =
            ap (λ t. cond t reading_set (phases i)) b ∙ kept.phases_are i low
            ∙ ap (λ t. heard (reconcilers i) (cond t n (callers i)) reading_set items) (sym b)

        compares_on : (i : ℕ) → i < count → Compared i c
            → put incarnations n (Some next_incarnation) (put callers c n i) ≡ Some (record { controller = i; crashes = put crashes c (crashes c + 1) i })
        compares_on i low (same e b) =
            ap (λ t. put incarnations n (Some next_incarnation) (cond t n (callers i))) b ∙ put_same incarnations n (Some next_incarnation)
            ∙ ap (λ k. Some (record { controller = k; crashes = crashes c + 1 })) (sym e)
            ∙ ap (λ t. Some (record { controller = i; crashes = cond t (crashes c + 1) (crashes i) })) (sym b)
        compares_on i low (other ne b) =
            ap (λ t. put incarnations n (Some next_incarnation) (cond t n (callers i))) b
            ∙ put_other incarnations n (Some next_incarnation) (callers i) (not_used (callers i) (kept.known (callers i) _ (kept.live i low)))
            ∙ kept.live i low
            ∙ ap (λ t. Some (record { controller = i; crashes = cond t (crashes c + 1) (crashes i) })) (sym b)

        more : (i : ℕ) → Compared i c → crashes i ≤ put crashes c (crashes c + 1) i
        more i (same e b) = let here = ap crashes e in let now = ap (λ t. cond t (crashes c + 1) (crashes i)) b in omega (arith, here, now)
        more i (other ne b) = let now = ap (λ t. cond t (crashes c + 1) (crashes i)) b in omega (arith, now)

        born : (m : ℕ) (incarnation : Incarnation) → Whose m incarnation → incarnation.crashes ≤ put crashes c (crashes c + 1) incarnation.controller
        born m incarnation (new e f) =
            let is : incarnation.crashes ≡ crashes c + 1 = ap (λ (l : Incarnation). l.crashes) f in
            let now : put crashes c (crashes c + 1) incarnation.controller ≡ crashes c + 1 = ap (λ (l : Incarnation). put crashes c (crashes c + 1) l.controller) f ∙ put_same crashes c (crashes c + 1) in
            omega (arith, is, now)
        born m incarnation (old ne is) = let was = kept.born m incarnation is in let now = more incarnation.controller (compare incarnation.controller c) in omega (arith, was, now)

        -- no caller had the new incarnation
        unborn : (m : ℕ) (incarnation : Incarnation) → incarnation ≡ next_incarnation → incarnations m ≡ Some incarnation → ⊥
        unborn m incarnation f is =
            let was = kept.born m incarnation is in
            let number : incarnation.crashes ≡ crashes c + 1 = ap (λ (l : Incarnation). l.crashes) f in
            let here : crashes incarnation.controller ≡ crashes c = ap (λ (l : Incarnation). crashes l.controller) f in
            absurd (omega (arith, was, number, here))

        alone : (m k : ℕ) (incarnation : Incarnation) → Whose m incarnation → Whose k incarnation → m ≡ k
        alone m k incarnation (new e f) (new g h) = e ∙ sym g
        alone m k incarnation (new e f) (old ne is) = absurd (unborn k incarnation f is)
        alone m k incarnation (old ne is) (new e f) = absurd (unborn m incarnation f is)
        alone m k incarnation (old ne is) (old nf also) = kept.alone m k incarnation is also

        known : (m : ℕ) (incarnation : Incarnation) → Whose m incarnation → among (n ∷ used) m ≡ true
        known m incarnation (new e f) = ap (λ b. b || among used m) (ap (λ i. n == i) e ∙ eq_self n)
        known m incarnation (old ne is) = still_among n m (kept.known m incarnation is)

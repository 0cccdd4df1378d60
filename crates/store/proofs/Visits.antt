-- What a caller has of its visits to a line and to shards.
use Rattle.std.proofs.Common.{◌≡◌, nat_lt, lt_of_not-le, ℕ, ◌+◌, ◌<◌, ◌≤◌, List, [], ◌∷◌, ◌++◌, length, Option, Some, refl, sym, ap, ◌∙◌, subst, ⊎_elim, arith, length-append}
use Rattle.std.specs.FinMap as finite
use mathlib.Core.List.{IsPrefix}
use mathlib.Core.Option.{some}
use mathlib.Core.Logic.{dite}
use native.Mathlib.Decide.{dec_le}
use lib.ListN.{get_elem?}
use Rattle.objects.specs.declared.key.Key.{Key}
use Rattle.objects.specs.declared.object.Object.{Object}
use Rattle.objects.specs.ShardOf.{shard_of}
use Rattle.requests.specs.declared.request.Request.TheVariants.{Get}
use Rattle.requests.specs.declared.reply.Reply.{Reply}
use Rattle.plain_store.specs.Route.{gets, route}
use Rattle.plain_store.specs.Store.{Store, found, step}
use Rattle.interleavings.proofs.Plainly.{step_routed}
use Rattle.versions.specs.Records.{Records, value}
use Rattle.line.specs.declared.view.NotedView.{NotedView}
use Rattle.line.specs.Notes.{IsLegal, observation, name_of, notes_of, notes_up_to}
use Rattle.line.specs.NotedSteps.{Matches, IsObserved, Observes, IsNamed}
use Rattle.line.specs.NotedView.{looked_noted, observed, entered, left_with, told, KeepsNotes}
use Rattle.line.specs.Seat.{CallerSeat, Seat, after_try, caller_seat}
use Rattle.line.proofs.Fronts.{prefix_length, prefix_self, prefix_trans}
use Rattle.line.proofs.Logs.{at_end, some_ne, some_of, some_same}
use Rattle.store.specs.declared.writing.Writing.{Writing}
use Rattle.store.specs.History.{Accepts, by_of, current_of, home_of, store_after}
use Rattle.store.specs.Callers.{Caller}
use Rattle.store.specs.Views.{AreTagged, HasLoaded, IsCallerView, HasObserved, Stays, caller_by}
use Rattle.store.proofs.Histories.{get_is, is_history}

-- tags stay different, also as the counts rise
pub tags_keep : (own : List (ℕ × Writing)) (n m : ℕ) → AreTagged own n → n ≤ m → AreTagged own m
tags_keep own n m h le = record { below = λ j p at. let b = h.below j p at in omega arith; apart = h.apart }

pub tags_more : (own : List (ℕ × Writing)) (n m : ℕ) (q : ℕ × Writing) → AreTagged own n → q.1.count ≡ n → n < m → AreTagged (own ++ q ∷ []) m
tags_more own n m q h is lt = record {
  below = λ j p at. ⊎_elim (λ t. let b = h.below j p t in omega arith) (λ (t : (j ≡ length own) × (q ≡ p)). let e = ap (λ (x : ℕ × Writing). x.1.count) t.1 in omega arith) (at_end own q p j at);
  apart = λ j k p r at bt same. ⊎_elim
      (λ t. ⊎_elim
      (λ u. h.apart j k p r t u same)
      (λ (u : (k ≡ length own) × (q ≡ r)). let b = h.below j p t in let e = ap (λ (x : ℕ × Writing). x.1.count) u.1 in absurd (omega arith))
      (at_end own q r k bt))
      (λ (t : (j ≡ length own) × (q ≡ p)). ⊎_elim
      (λ u. let b = h.below k r u in let e = ap (λ (x : ℕ × Writing). x.1.count) t.1 in absurd (omega arith))
      (λ (u : (k ≡ length own) × (q ≡ r)). t.0 ∙ sym u.0)
      (at_end own q r k bt))
      (at_end own q p j at);
}

no_tags : AreTagged [] 0
no_tags = record { below = λ j p at. absurd (some_ne p at); apart = λ j k p q at bt e. absurd (some_ne p at) }

-- a try to raise the frontier loads nothing of it, and looks at one mark if numbers are left above what was seen
pub raised_once : (v w : Seat Writing) (capacity f : ℕ) → (v.view.plain.seen < capacity → caller_seat w ≡ after_try (caller_seat v) f) → (v.view.plain.seen ≡ capacity → w ≡ v) → v.view.plain.seen ≤ capacity
    → (w.view.plain.loads ≡ v.view.plain.loads)
    × (v.view.plain.seen < capacity → length w.view.plain.tries ≡ length v.view.plain.tries + 1)
    × (v.view.plain.seen ≡ capacity → length w.view.plain.tries ≡ length v.view.plain.tries)
raised_once v w capacity f tried whole le = (
  dite (dec_le capacity v.view.plain.seen)
      (λ all. ap (λ (s : Seat Writing). s.view.plain.loads) (whole (omega arith)))
      (λ some_left. ap (λ (s : CallerSeat). s.loads) (tried (lt_of_not-le some_left))),
  λ less. ap (λ (s : CallerSeat). length s.tries) (tried less) ∙ length-append v.view.plain.tries ((v.view.plain.seen + 1, nat_lt v.view.plain.seen f) ∷ []),
  λ all. ap (λ (s : Seat Writing). length s.view.plain.tries) (whole all),
)

module _ (shards capacity : ℕ) where
  pub named_view : (v w : NotedView Writing) → IsNamed (home_of shards) by_of Accepts v w → IsCallerView shards w
  named_view v w n = subst (IsCallerView shards) (sym n.1) record { named = refl; legal = n.2; own_there = sym n.3; long = n.4; tagged = tags_keep [] 0 (length v.observations) no_tags (omega arith) }

  pub told_view : (v w u : NotedView Writing) → u ≡ told v w → IsCallerView shards v → IsCallerView shards u
  told_view v w u e h = subst (IsCallerView shards) (sym e) record { named = h.named; legal = h.legal; own_there = h.own_there; long = h.long; tagged = h.tagged }

  -- a try to raise the frontier, and a load of it
  pub raised_and_loaded : (v w x : NotedView Writing) (f : ℕ) → IsPrefix v.seen w.seen → KeepsNotes v w → w.plain.loads ≡ v.plain.loads → x ≡ looked_noted w f x.seen → Matches (home_of shards) by_of Accepts w f x.seen → f ≤ capacity → IsCallerView shards v → HasLoaded shards capacity (caller_by v) f (caller_by x)
  raised_and_loaded v w x f begins kept counted looked sees within h = record {
    name = ap name_of (ap (λ (y : NotedView Writing). y.caller) looked ∙ kept.1);
    own_notes = ap (λ (y : NotedView Writing). y.own_notes) looked ∙ kept.2;
    observations = ap (λ (y : NotedView Writing). y.observations) looked ∙ kept.4;
    loads = ap (λ (y : NotedView Writing). y.plain.loads) looked ∙ ap (λ n. n + 1) counted;
    begins = prefix_trans v.seen w.seen x.seen begins sees.more;
    long = sees.long;
    within = within;
    legal = sees.legal;
    history = is_history shards capacity x.seen sees.legal (let l = sees.long in omega arith);
    own_there =
        let s = some_of v.caller h.named in
        let who : x.caller ≡ Some s.0 = ap (λ (y : NotedView Writing). y.caller) looked ∙ (kept.1 ∙ s.1) in
        let whose : w.caller ≡ Some s.0 = kept.1 ∙ s.1 in
        ap (λ n. notes_up_to n x.own_notes) sees.long ∙ (ap (notes_up_to f) (ap (λ (y : NotedView Writing). y.own_notes) looked) ∙ (sees.of_caller s.0 whose ∙ ap (λ o. notes_of by_of (name_of o) 1 x.seen) (sym who)));
    shown = λ k m c at le le'. sees.observations k m c (subst (λ l. get_elem? l k ≡ some c) (sym kept.4) at) le le';
  }

  -- ---- a caller's seat in a shard's

  pub entered_view : (v w b : NotedView Writing) → b ≡ entered v w → IsCallerView shards w → IsCallerView shards b
  entered_view v w b in_ h = subst (IsCallerView shards) (sym in_) record { named = h.named; legal = h.legal; own_there = h.own_there; long = h.long; tagged = h.tagged }

  pub left_view : (y z : NotedView Writing) → z ≡ left_with y → IsCallerView shards y → IsCallerView shards z
  left_view y z out h = subst (IsCallerView shards) (sym out) record { named = h.named; legal = h.legal; own_there = h.own_there; long = h.long; tagged = h.tagged }

  pub left_caller : (y z : NotedView Writing) → z ≡ left_with y → caller_by z ≡ caller_by y
  left_caller y z out = ap caller_by out

  -- a caller that entered a shard's seat and left
  pub passed_stays : (v w b z : NotedView Writing) → b ≡ entered v w → z ≡ left_with b → Stays (caller_by w) (caller_by z)
  passed_stays v w b z in_ out = subst (λ (x : NotedView Writing). Stays (caller_by w) (caller_by x)) (sym (out ∙ ap left_with in_)) record { name = refl; own_notes = refl; observations = prefix_self w.observations; loads = refl; seen = refl }

  -- it notes what the shard has
  module _ (floor : ℕ) (b y : NotedView Writing) (index : ℕ) (at : b.shard ≡ Some index) (notes : Observes (home_of shards) by_of Accepts floor b y) where
    abbrev i : ℕ
    i = notes.0

    abbrev d : ℕ
    d = notes.1

    observations : IsObserved (home_of shards) by_of Accepts b i d
    observations = notes.3

    i_is : i ≡ index
    i_is = some_same i index (sym notes.2 ∙ at)

    pub noted_view : IsCallerView shards b → IsCallerView shards y
    noted_view h = subst (IsCallerView shards) (sym notes.4) record {
      named = h.named;
      legal = (observations).legal;
      own_there = let s = some_of b.caller h.named in
          (observations).of_caller s.0 s.1 ∙ ap (λ o. notes_of by_of (name_of o) 1 b.seen) (sym s.1);
      long = (observations).long;
      tagged = tags_keep b.own_notes (length b.observations) (length (b.observations ++ observation i d b.notes floor ∷ [])) h.tagged (let l = length-append b.observations (observation i d b.notes floor ∷ []) in omega arith);
    }

    pub noted : b.plain.capacity ≡ capacity → (n : ℕ) × HasObserved shards capacity index b.notes floor (caller_by b) n (caller_by y)
    noted size =
        let within = (observations).within in (
          d,
          subst (λ (n : NotedView Writing). HasObserved shards capacity index b.notes floor (caller_by b) d (caller_by n)) (sym notes.4) (subst (λ k. HasObserved shards capacity k b.notes floor (caller_by b) d (caller_by (observed b i d floor))) i_is record {
            name = refl;
            own_notes = refl;
            observations = refl;
            loads = refl;
            seen = refl;
            within = omega arith;
            drawn = (observations).seen;
            all = (observations).all;
            legal = (observations).legal;
            shown = (observations).of_shard;
          }),
        )

  -- the same for one that enters and leaves
  pub visited : (floor : ℕ) (v w b y z : NotedView Writing) (index : ℕ) → v.shard ≡ Some index → b ≡ entered v w → Observes (home_of shards) by_of Accepts floor b y → z ≡ left_with y → b.plain.capacity ≡ capacity → (n : ℕ) × HasObserved shards capacity index v.notes floor (caller_by w) n (caller_by z)
  visited floor v w b y z index at in_ notes out size =
      let n = noted floor b y index (ap (λ (x : NotedView Writing). x.shard) in_ ∙ at) notes size in
      let m = subst (λ (x : NotedView Writing). HasObserved shards capacity index x.notes floor (caller_by x) n.0 (caller_by y)) in_ n.1 in (
        n.0,
        subst (λ (x : Caller). HasObserved shards capacity index v.notes floor (caller_by w) n.0 x) (sym (ap caller_by out)) record {
          name = m.name;
          own_notes = m.own_notes;
          observations = m.observations;
          loads = m.loads;
          seen = m.seen;
          within = m.within;
          drawn = m.drawn;
          all = m.all;
          legal = m.legal;
          shown = m.shown;
        },
      )

  -- it loads the frontier there
  module _ (v w b y : NotedView Writing) (f : ℕ) (in_ : b ≡ entered v w) (looked : y ≡ looked_noted b f y.seen) (sees : Matches (home_of shards) by_of Accepts b f y.seen) (h : IsCallerView shards w) where
    sees_it : Matches (home_of shards) by_of Accepts (entered v w) f y.seen
    sees_it = subst (λ n. Matches (home_of shards) by_of Accepts n f y.seen) in_ sees

    there_is : y ≡ looked_noted (entered v w) f y.seen
    there_is = looked ∙ ap (λ n. looked_noted n f y.seen) in_

    own_seen : notes_up_to (length y.seen) w.own_notes ≡ notes_of by_of (name_of w.caller) 1 y.seen
    own_seen = let q = some_of w.caller h.named in ap (λ n. notes_up_to n w.own_notes) (sees_it).long ∙ ((sees_it).of_caller q.0 q.1 ∙ ap (λ o. notes_of by_of (name_of o) 1 y.seen) (sym q.1))

    pub looked_view : IsCallerView shards y
    looked_view = subst (IsCallerView shards) (sym there_is) record { named = h.named; legal = (sees_it).legal; own_there = own_seen; long = (sees_it).long; tagged = h.tagged }

    pub looked_there : f ≤ capacity → HasLoaded shards capacity (caller_by w) f (caller_by y)
    looked_there within = subst (λ (x : NotedView Writing). HasLoaded shards capacity (caller_by w) f (caller_by x)) (sym there_is) record {
      name = refl;
      own_notes = refl;
      observations = refl;
      loads = refl;
      begins = (sees_it).more;
      long = (sees_it).long;
      within = within;
      legal = (sees_it).legal;
      history = is_history shards capacity y.seen (sees_it).legal (let l = (sees_it).long in omega arith);
      own_there = own_seen;
      shown = λ k m c at le le'. (sees_it).observations k m c at le le';
    }

    -- it knows of all that was known there
    pub looked_past : length v.seen ≤ f
    looked_past = let l = prefix_length v.seen y.seen (sees_it).reported in let e = (sees_it).long in omega arith

  -- the reply to a get is the object of its key
  gets_it : (s : Store) (k : Key) → (step s (Get k)).1 ≡ found (finite.get s.objects k)
  unfolding route
  gets_it s k = ap (λ (p : Store × Reply). p.1) (step_routed s (Get k) (gets k) refl)

  pub get_answer : (rs : Records) (has : List (ℕ × Writing)) (k : Key) (n : ℕ) (h : List Writing) → value rs n k ≡ current_of (notes_up_to n has) k → n ≡ length h → length h ≤ capacity → IsLegal (home_of shards) Accepts h
      → notes_up_to (length h) has ≡ notes_of (home_of shards) (shard_of k shards) 1 h → found (value rs n k) ≡ (step (store_after capacity h) (Get k)).1
  get_answer rs has k n h shown is within legal own =
      ap (λ (o : Option Object). found o) (shown ∙ (ap (λ m. current_of (notes_up_to m has) k) is ∙ (ap (λ ps. current_of ps k) own ∙ sym (get_is shards capacity h legal within k))))
      ∙ sym (gets_it (store_after capacity h) k)

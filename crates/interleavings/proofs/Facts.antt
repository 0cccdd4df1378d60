-- The facts that a step rests on hold of each world that a run leads to.
use Rattle.std.proofs.Common.{◌≡◌, ℕ, zero, suc, ◌<◌, ◌⊎◌, Bool, true, false, List, [], ◌∷◌, Option, Some, None, refl, sym, ap, subst, inl, inr, arith}
use Rattle.std.specs.FinMap as map
use Rattle.std.proofs.lemmas.Option.{none-some, same_Some}
use Rattle.objects.specs.declared.key.Key.{Key}
use Rattle.objects.specs.declared.object.Object.{Object}
use Rattle.requests.specs.declared.request.Request.{Request}
use Rattle.requests.specs.declared.verdict.Verdict.{Verdict}
use Rattle.requests.specs.declared.verdict.Verdict.TheVariants.{Refuse, Same, Write}
use Rattle.requests.specs.Change.{Change, change_object}
use Rattle.requests.specs.Verdict.{verdict}
use Rattle.plain_store.specs.Route.{route, writes}
use Rattle.plain_store.specs.Store.{Objects, step}
use Rattle.plain_store.proofs.ChangedKeys as keys
use Rattle.plain_store.proofs.ChangedKeys.{IsOfKey, changes_its_key}
use Rattle.plain_store.proofs.Routes.{names_its_key}
use Rattle.interleavings.specs.declared.event.Event.{Event}
use Rattle.interleavings.specs.Facts.{Facts, draw_in, writing_in}
use Rattle.interleavings.specs.Log.{IsFiled, Writing, state_at, value}
use Rattle.interleavings.specs.World.{Draw, Phase, Idle, Called, Holding, Drawn, Waiting, Reading, Gone, Size, World, opening, shard}
use Rattle.interleavings.specs.Order.{Arrangement, arranged, beginning}
use Rattle.interleavings.specs.Step as world
use Rattle.interleavings.specs.Step.{only, reads}
use Rattle.interleavings.specs.Trace.{after}
use Rattle.interleavings.specs.Linearization.{Has}
use Rattle.interleavings.proofs.Arranged.{Holds}
use Rattle.interleavings.proofs.Basics.{Compared, same, other, compare}
use Rattle.interleavings.proofs.Collected.{same_answer}
use Rattle.interleavings.proofs.Invariant.{DrawnFacts, Ghost, Invariant, PhaseFacts, ReadingFacts}
use Rattle.interleavings.proofs.Filed.{value_key_upto}
use Rattle.interleavings.proofs.Plainly.{Judged, by_verdict, capped, moves, stays}
use Rattle.interleavings.proofs.Runs.{begins, step_goes}
use Rattle.interleavings.proofs.Turns.{AllInTurn, step_turn}

-- ---- a change is of the key that its request is routed to

uncapped : (full : Bool) (v : Judged) (c : Change) → capped full v ≡ moves c → v ≡ moves c
uncapped true (stays r) c is = absurd cc
uncapped false (stays r) c is = absurd cc
uncapped true (moves x) c is = absurd cc
uncapped false (moves x) c is = is

writes_it : (v : Verdict) (c : Change) → by_verdict v ≡ moves c → v ≡ Write c
writes_it (Refuse reason) c is = absurd cc
writes_it (Same o) c is = absurd cc
writes_it (Write x) c is = let same_change : x ≡ c = cc in ap Write same_change

filed_option : (k : Key) (o : Option Object) → ((x : Object) → o ≡ Some x → x.key ≡ k) → keys.IsFiled k o
filed_option k None own = tt
filed_option k (Some x) own = own x refl

change_key : (q : Request) (k : Key) (o : Option Object) (c : Change) → route q ≡ writes k → ((x : Object) → o ≡ Some x → x.key ≡ k) → by_verdict (verdict q o) ≡ moves c → (change_object c).key ≡ k
change_key q k o c routed own judged = subst (IsOfKey k) (writes_it (verdict q o) c judged) (changes_its_key q k o (names_its_key q k routed) (filed_option k o own))

-- ---- a write in progress
record UnderWay (z : Size) (w : World) (c : ℕ) (t : Writing) : Type 0 where
  pub request : Request
  pub routed : route request ≡ writes t.key
  pub holds : w.holder (shard z t.key) ≡ Some c
  pub number : ℕ
  pub judged : by_verdict (verdict request (value w.log number t.key)) ≡ moves t.change

module _ (z : Size) (w : World) (g : Ghost) (iv : Invariant z w g) where
  drawn_under_way : (c i : ℕ) (t : Writing) → DrawnFacts z w g c i t → UnderWay z w c t
  drawn_under_way c i t h = record { request = h.request; routed = h.held.routed; holds = h.held.holds; number = i; judged = uncapped _ _ t.change h.judged }

  under_way_in : (c : ℕ) (ph : Phase) → PhaseFacts z w g c ph → (t : Writing) → writing_in ph ≡ Some t → UnderWay z w c t
  under_way_in c Idle h t is = absurd (none-some t is)
  under_way_in c (Called p r) h t is = absurd (none-some t is)
  under_way_in c (Holding x) h t is = subst (λ (u : Writing). UnderWay z w c u) (same_Some x t is) (record { request = h.request; routed = h.held.routed; holds = h.held.holds; number = w.drawn; judged = h.judged })
  under_way_in c (Drawn d) h t is = subst (λ (u : Writing). UnderWay z w c u) (same_Some d.writing t is) (drawn_under_way c d.index d.writing h)
  under_way_in c (Waiting s p r) h t is = absurd (none-some t is)
  under_way_in c (Reading n p r parts found) h t is = absurd (none-some t is)
  under_way_in c (Gone None) h t is = absurd (none-some t is)
  under_way_in c (Gone (Some d)) h t is = subst (λ (u : Writing). UnderWay z w c u) (same_Some d.writing t is) (drawn_under_way c d.index d.writing h)

  under_way : (c : ℕ) (t : Writing) → writing_in (w.phase c) ≡ Some t → UnderWay z w c t
  under_way c = under_way_in c (w.phase c) (iv.phases c)

  pub writing_holds : (c : ℕ) (t : Writing) → writing_in (w.phase c) ≡ Some t → w.holder (shard z t.key) ≡ Some c
  writing_holds c t is = (under_way c t is).holds

  draws_in : (c : ℕ) (ph : Phase) → PhaseFacts z w g c ph → (d : Draw) → draw_in ph ≡ Some d → DrawnFacts z w g c d.index d.writing
  draws_in c Idle h d is = absurd (none-some d is)
  draws_in c (Called p r) h d is = absurd (none-some d is)
  draws_in c (Holding x) h d is = absurd (none-some d is)
  draws_in c (Drawn x) h d is = subst (λ (y : Draw). DrawnFacts z w g c y.index y.writing) (same_Some x d is) h
  draws_in c (Waiting s p r) h d is = absurd (none-some d is)
  draws_in c (Reading n p r parts found) h d is = absurd (none-some d is)
  draws_in c (Gone None) h d is = absurd (none-some d is)
  draws_in c (Gone (Some x)) h d is = subst (λ (y : Draw). DrawnFacts z w g c y.index y.writing) (same_Some x d is) h

  draws : (c : ℕ) (d : Draw) → draw_in (w.phase c) ≡ Some d → DrawnFacts z w g c d.index d.writing
  draws c = draws_in c (w.phase c) (iv.phases c)

  -- ---- each write of the log is of an object of its key
  filed_upto : (n i : ℕ) (t : Writing) → i < n → w.log i ≡ Some t → (change_object t.change).key ≡ t.key
  filed_upto zero i t lt e = absurd (omega arith)
  filed_upto (suc n) i t lt e = by (compare i n) (λ j u less. filed_upto n j u less)
    where
      by : Compared i n → ((j : ℕ) (u : Writing) → j < n → w.log j ≡ Some u → (change_object u.change).key ≡ u.key) → (change_object t.change).key ≡ t.key
      by (same at b) ih =
          let h = iv.writings i t e in
          change_key h.request t.key (value w.log i t.key) t.change h.routed (value_key_upto w.log i (λ j u less. ih j u (omega arith)) t.key) (uncapped _ _ t.change h.judged)
      by (other ne b) ih = ih i t (omega arith) e

  filed : IsFiled w.log
  filed i t = filed_upto (suc i) i t (omega arith)

  fits : (c : ℕ) (t : Writing) → writing_in (w.phase c) ≡ Some t → (change_object t.change).key ≡ t.key
  fits c t is =
      let u = under_way c t is in
      change_key u.request t.key (value w.log u.number t.key) t.change u.routed (value_key_upto w.log u.number (λ i v less. filed i v) t.key) u.judged

  -- ---- reads
  readings : (c n p : ℕ) (r : Request) (parts : List ℕ) (found : Objects) → w.phase c ≡ Reading n p r parts found → ReadingFacts z w g n p r parts found
  readings c n p r parts found is = subst (PhaseFacts z w g c) is (iv.phases c)

  answers : (n p : ℕ) (r : Request) (found : Objects) → ReadingFacts z w g n p r [] found → (step (only z n found) r).1 ≡ (step (only z n (state_at w.log n)) r).1
  answers n p r found h = sym (same_answer z w.log n r found (route r) refl h.no_write (λ k wanted. by k (h.seen k wanted)))
    where
      by : (k : Key) → (Has (shard z k) [] × (map.get found k ≡ None)) ⊎ (map.get found k ≡ value w.log n k) → map.get found k ≡ value w.log n k
      by k (inl none) = absurd none.0
      by k (inr is) = is

  pub facts_now : 0 < z.shards → AllInTurn z w → Facts z w
  facts_now some turns = record {
    some = some;
    standing = iv.standing;
    within = iv.within;
    room = iv.room;
    above = iv.above;
    filed = filed;
    fits = fits;
    holds = writing_holds;
    below = λ c d is. (draws c d is).below;
    empty = λ c d is. (draws c d is).empty;
    latest = λ c d is. (turns c).latest d is;
    past = λ c n p r parts found is. let h = readings c n p r parts found is in (h.past, h.no_write);
    answer = λ c n p r found is. answers n p r found (readings c n p r [] found is);
    numbered = λ c n p r parts found is. (turns c).numbered n p r parts found is;
  }

run_facts : (z : Size) → 0 < z.shards → (events : List Event) (w : World) (a : Arrangement) → Holds z w a → AllInTurn z w → Facts z (after z w events)
run_facts z some [] w a h turns = facts_now z w h.0 h.1.0 some turns
run_facts z some (e ∷ es) w a h turns =
    run_facts z some es (world.step z w e) (arranged w e (world.step z w e) a) (step_goes z w h.0 a some h.1.0 h.1.1 e) (step_turn z w h.1.0.above (writing_holds z w h.0 h.1.0) h.1.0.standing turns e)

pub facts_after : (z : Size) → 0 < z.shards → (events : List Event) → Facts z (after z opening events)
facts_after z some events = run_facts z some events opening beginning (begins z) (λ c. record { latest = λ d e. absurd (none-some d e); numbered = λ n p r parts found e. absurd cc })

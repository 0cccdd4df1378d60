-- Controllers are in the phases after the replies to their callers.
use Rattle.std.proofs.Common.{◌≡◌, ◌≢◌, ◌<◌, ◌==◌, inl, inr, ℕ, Bool, true, false, cond, List, [], ◌∷◌, Option, Some, None, refl, sym, ap, ◌∙◌, length, eq-eqb, ne_eqb, true≢false, arith}
use Rattle.std.specs.Prelude.{nat_lt, ◌&&◌, option_map, slice_get}
use Rattle.std.specs.Option.{option_map_or}
use Rattle.std.proofs.lemmas.Option.{none-some, slice_get_cases}
use Rattle.objects.specs.declared.kind.Kind.TheVariants.{StatefulSet}
use Rattle.objects.specs.Key.{key_parts}
use Rattle.requests.specs.declared.request.Request.{Request}
use Rattle.requests.specs.declared.reply.Reply.{Reply}
use Rattle.interleavings.specs.declared.event.Event.{Event}
use Rattle.interleavings.specs.declared.event.Event.TheVariants as event
use Rattle.interleavings.specs.declared.trace.Item.{Item}
use Rattle.interleavings.specs.declared.trace.Item.TheVariants as item
use Rattle.interleavings.specs.Trace.{after, trace}
use Rattle.interleavings.specs.World.{Size, opening}
use Rattle.interleavings.proofs.Basics.{Compared, same, other, compare}
use Rattle.rounds.specs.Phase.{asks, reading_set, takes}
use Rattle.rounds.specs.Reconciler.{Reconciler}
use Rattle.rounds.specs.Transcript.{Incarnation}
use Rattle.rounds.specs.World.{put}
use Rattle.cluster_runs.specs.declared.event.ClusterEvent.{ClusterEvent}
use Rattle.cluster_runs.specs.declared.event.ClusterEvent.TheVariants.{Next, Outside, Step, Crash}
use Rattle.cluster_runs.specs.Cluster.{Cluster, controller_at, delivered, hand, hand_if, happens, hears, is_idle, is_nobody, is_used, lowest_unused, run, start, with_crash, with_outside, with_step}
use Rattle.cluster_runs.specs.Ran.{cluster_after, owner}
use Rattle.cluster_runs.proofs.Calling.{among_later}
use Rattle.cluster_runs.proofs.Heard as replies
use Rattle.cluster_runs.proofs.Kept.{put_other}
use Rattle.cluster_runs.proofs.Steps.{Keeps, run_kept, start_kept}
use Rattle.cluster_runs.proofs.Unused.{lowest_is_unused}
use Rattle.controllers.specs.Reconciler.{reconciler_with}
use Rattle.controllers.specs.declared.set_spec.SetSpec.{SetSpec}
use Rattle.controllers.specs.Cluster.{reconciler_for, reconciler_named}
use Rattle.traces.specs.InCluster.{StandAsCallers}
use Rattle.traces.specs.RefusedPlans.{Owners, Phases, none_read, phase_after, phases_after, phases_from, set_of}

-- ---- a caller that was used keeps its incarnation
module _ (z : Size) (count : ℕ) (reconcilers : ℕ → Reconciler) (n : ℕ) where
  abbrev Stays : Cluster → Cluster → Type 0
  Stays k l = (l.incarnations n ≡ k.incarnations n) × (is_used l n ≡ true)

  module _ (k : Cluster) (used : is_used k n ≡ true) where
    handed : (b : Bool) (e : Event) → Stays k (hand_if b k e)
    handed true e = (refl, used)
    handed false e = (refl, used)

    called : (low idle : Bool) (e : Event) → Stays k (cond low (cond idle (hand k e) k) k)
    called true true e = (refl, used)
    called true false e = (refl, used)
    called false idle e = (refl, used)

    admitted : (m : ℕ) (b : Bool) (r : Request) → Stays k (hand (cond b k (record k { used = m ∷ k.used })) (event.Call m r))
    admitted m true r = (refl, used)
    admitted m false r = (refl, among_later m k.used n used)

    came : (m : ℕ) (r : Request) (incarnation : Option Incarnation) → Stays k (with_outside k m r incarnation)
    came m r None = admitted m (is_used k m) r
    came m r (Some incarnation) = (refl, used)

    replied : (b : Bool) (who : Option ℕ) (reply : Option Reply) (e : Event) → Stays k (cond b (hand (hears reconcilers k who reply) e) k)
    replied true None reply e = (refl, used)
    replied true (Some c) None e = (refl, used)
    replied true (Some c) (Some reply) e = (refl, used)
    replied false who reply e = (refl, used)

    stepped : (e : Event) → Stays k (with_step z reconcilers k e)
    stepped (event.Call m r) = (refl, used)
    stepped (event.Check m) = handed (is_used k m) (event.Check m)
    stepped (event.Reserve m) = handed (is_used k m) (event.Reserve m)
    stepped (event.Publish m) = handed (is_used k m) (event.Publish m)
    stepped event.Raise = (refl, used)
    stepped (event.Read m) = handed (is_used k m) (event.Read m)
    stepped (event.ReadAt m) = handed (is_used k m) (event.ReadAt m)
    stepped (event.Compact m) = handed (is_used k m) (event.Compact m)
    stepped (event.Part m) = handed (is_used k m) (event.Part m)
    stepped (event.Reply m) = replied (is_used k m) (controller_at k m) (delivered z k.events (event.Reply m)) (event.Reply m)
    stepped (event.Crash m) = handed (is_used k m && is_nobody (controller_at k m)) (event.Crash m)

    apart : n ≢ lowest_unused k
    apart e = true≢false (sym used ∙ ap (is_used k) e ∙ lowest_is_unused k)

    crashed : (c : ℕ) (low : Bool) → Stays k (cond low (with_crash k c) k)
    crashed c true = (put_other k.incarnations (lowest_unused k) _ n apart, among_later (lowest_unused k) k.used n used)
    crashed c false = (refl, used)

    happened : (e : ClusterEvent) → Stays k (happens z count reconcilers k e)
    happened (Next c) = called (nat_lt c count) (is_idle ((after z opening k.events).phase (k.callers c))) (event.Call (k.callers c) (asks (reconcilers c) (k.phases c)))
    happened (Outside m r) = came m r (k.incarnations m)
    happened (Step e) = stepped e
    happened (Crash c) = crashed c (nat_lt c count)

  stays : (k : Cluster) → is_used k n ≡ true → (es : List ClusterEvent) → (run z count reconcilers k es).incarnations n ≡ k.incarnations n
  stays k used [] = refl
  stays k used (e ∷ es) =
      let one = happened k used e in
      stays (happens z count reconcilers k e) one.1 es ∙ one.0

-- ---- a caller's phase is that of its controller after the replies to it
module _ (owners : Owners) (sets : List SetSpec) (n : ℕ) (spec : SetSpec) (is : set_of sets (owners n) ≡ Some spec) where
  replied_at : (phases : Phases) (m : ℕ) (a : Reply) → Compared m n
      → put phases m (phase_after (set_of sets (owners m)) (phases m) a) n ≡ cond (m == n) (takes (reconciler_for spec) (phases n) a) (phases n)
  replied_at phases m a (same e b) =
      ap (λ t. cond t (phase_after (set_of sets (owners m)) (phases m) a) (phases n)) (eq-eqb n m (sym e))
      ∙ ap (λ i. phase_after (set_of sets (owners i)) (phases i) a) e ∙ ap (λ o. phase_after o (phases n) a) is
      ∙ sym (ap (λ t. cond t (takes (reconciler_for spec) (phases n) a) (phases n)) b)
  replied_at phases m a (other ne b) =
      ap (λ t. cond t (phase_after (set_of sets (owners m)) (phases m) a) (phases n)) (ne_eqb n m (λ e. ne (sym e)))
      ∙ sym (ap (λ t. cond t (takes (reconciler_for spec) (phases n) a) (phases n)) b)

  heard_is : (items : List Item) (phases : Phases) → phases_from owners sets phases items n ≡ replies.heard (reconciler_for spec) n (phases n) items
  heard_is [] phases = refl
  heard_is (item.Call x m r ∷ items) phases = heard_is items phases
  heard_is (item.Reply x m a ∷ items) phases =
      heard_is items (phases_after owners sets phases (item.Reply x m a))
      ∙ ap (λ p. replies.heard (reconciler_for spec) n p items) (replied_at phases m a (compare m n))

none_past : {X : Type 0} (xs : List X) (i : ℕ) → i < length xs → slice_get xs i ≡ None → ⊥
none_past xs i low none = elim (slice_get_cases xs i).1 [
  | inl found ↦ absurd (none-some found.0 (sym none ∙ found.2))
  | inr past ↦ let above = past.0 in absurd (omega (arith, above, low))
]

named_is : (sets : List SetSpec) (c : ℕ) (spec : SetSpec) → slice_get sets c ≡ Some spec → reconciler_named sets c ≡ reconciler_for spec
unfolding reconciler_named
named_is sets c spec is = ap (λ o. option_map_or reconciler_for o (reconciler_with (key_parts StatefulSet [] []) 1 [])) is

module _ (size : Size) (sets : List SetSpec) (events more : List ClusterEvent) (c : ℕ) (low : c < length sets) where
  abbrev now : Cluster
  now = cluster_after size (length sets) (reconciler_named sets) events

  abbrev last : Cluster
  last = run size (length sets) (reconciler_named sets) now more

  kept : Keeps size (reconciler_named sets) (length sets) now
  kept = run_kept size (reconciler_named sets) (length sets) (start (length sets)) (start_kept size (reconciler_named sets) (length sets)) events

  -- the caller is the controller's, now and later
  own : owner last.incarnations (now.callers c) ≡ Some c
  own =
      ap (option_map (λ (i : Incarnation). i.controller))
      (stays size (length sets) (reconciler_named sets) (now.callers c) now (kept.known (now.callers c) _ (kept.live c low)) more ∙ kept.live c low)

  stands : (spec : SetSpec) → slice_get sets c ≡ Some spec → phases_from (owner last.incarnations) sets none_read (trace size now.events) (now.callers c) ≡ now.phases c
  stands spec is =
      heard_is (owner last.incarnations) sets (now.callers c) spec (ap (set_of sets) own ∙ is) (trace size now.events) none_read
      ∙ ap (λ r. replies.heard r (now.callers c) reading_set (trace size now.events)) (sym (named_is sets c spec is)) ∙ sym (kept.phases_are c low)

  there : (o : Option SetSpec) → slice_get sets c ≡ o → phases_from (owner last.incarnations) sets none_read (trace size now.events) (now.callers c) ≡ now.phases c
  there (Some spec) is = stands spec is
  there None is = absurd (none_past sets c low is)

pub stand_as_callers : (size : Size) (sets : List SetSpec) (events more : List ClusterEvent) → StandAsCallers size sets events more
stand_as_callers size sets events more = λ c low. there size sets events more c low (slice_get sets c) refl

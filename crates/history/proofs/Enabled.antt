-- The step that brings a caller closer to its reply is enabled: it leaves another world.
use Rattle.std.proofs.Common.{◌≡◌, ◌≢◌, ℕ, suc, Bool, true, false, nat_le, nat_lt, if◌then◌else◌, List, [], ◌∷◌, length, Option, Some, None, is_some, refl, sym, ap, subst, ◌∙◌, arith}
use Rattle.std.proofs.lemmas.Option.{same_Some}
use Rattle.objects.specs.declared.key.Key.{Key}
use Rattle.requests.specs.declared.reply.Reason.{Reason}
use Rattle.requests.specs.declared.reply.Reply.{Reply}
use Rattle.requests.specs.declared.request.Request.{Request}
use Rattle.requests.specs.declared.verdict.Verdict.{Verdict}
use Rattle.requests.specs.declared.verdict.Verdict.TheVariants.{Refuse, Same, Write}
use Rattle.requests.specs.Verdict.{verdict}
use Rattle.plain_store.specs.Route.{Route, compacts, gets, lists, lists_at, route, writes}
use Rattle.plain_store.specs.Store.{denied}
use Rattle.interleavings.specs.declared.event.Event.{Event}
use Rattle.interleavings.specs.declared.event.Event.TheVariants as event
use Rattle.interleavings.specs.Log.{Writing, value}
use Rattle.interleavings.specs.Step.{begun_unless, checked, checked_by, checked_in, compacted, compacted_by, drawn_by, floored, with_reply_if, happens, judged, part, published, raised, read, read_at, read_at_by, read_by, replied, reserved}
use Rattle.interleavings.specs.World.{Phase, Idle, Called, Holding, Drawn, Waiting, Reading, Gone, Size, World, shard}
use Rattle.interleavings.proofs.Basics.{changed-same}
use Rattle.history.specs.declared.caller_phase.CallerPhase.TheVariants as caller_phase
use Rattle.history.specs.NextStep.{can_rise, goes_on, next_step}
use Rattle.history.specs.CallerPhase.{first_step, caller_phase_of}

abbrev parts_of : Phase → List ℕ
parts_of Idle = []
parts_of (Called p r) = []
parts_of (Holding t) = []
parts_of (Drawn d) = []
parts_of (Waiting s p r) = []
parts_of (Reading n p r parts found) = parts
parts_of (Gone left) = []

-- the caller is in another phase afterwards
record IsElsewhere (c : ℕ) (ph : Phase) (v : World) : Type 0 where
  there : Phase
  is : v.phase c ≡ there
  other : there ≡ ph → ⊥

module _ (z : Size) (w : World) (c : ℕ) where
  abbrev is_held : ℕ → Bool
  is_held s = is_some (w.holder s)

  elsewhere : (e : Event) (ph : Phase) (v : World) → w.phase c ≡ ph → happens z w e ≡ v → IsElsewhere c ph v → happens z w e ≢ w
  elsewhere e ph v at to x = λ same. x.other (sym x.is ∙ ap (λ u. u.phase c) (sym to ∙ same) ∙ at)

  -- ---- a write, by its verdict
  judged_elsewhere : (p : ℕ) (r : Request) (k : Key) (v : Verdict) → IsElsewhere c (Called p r) (judged z w c p k v)
  judged_elsewhere p r k (Refuse reason) = record { there = _; is = changed-same w.phase c _; other = λ x. absurd cc }
  judged_elsewhere p r k (Same o) = record { there = _; is = changed-same w.phase c _; other = λ x. absurd cc }
  judged_elsewhere p r k (Write change) = record { there = _; is = changed-same w.phase c _; other = λ x. absurd cc }

  begun_elsewhere : (p : ℕ) (r : Request) (n : ℕ) (o : Option Reason) → IsElsewhere c (Called p r) (begun_unless z w c p r n o)
  begun_elsewhere p r n (Some reason) = record { there = _; is = changed-same w.phase c _; other = λ x. absurd cc }
  begun_elsewhere p r n None = record { there = _; is = changed-same w.phase c _; other = λ x. absurd cc }

  floored_elsewhere : (p : ℕ) (r : Request) (to : ℕ) (o : Option Reason) → IsElsewhere c (Called p r) (floored w c p to o)
  floored_elsewhere p r to (Some reason) = record { there = _; is = changed-same w.phase c _; other = λ x. absurd cc }
  floored_elsewhere p r to None = record { there = _; is = changed-same w.phase c _; other = λ x. absurd cc }

  drawn_elsewhere : (t : Writing) (b : Bool) → IsElsewhere c (Holding t) (drawn_by z w c t b)
  drawn_elsewhere t true = record { there = _; is = changed-same w.phase c _; other = λ x. absurd cc }
  drawn_elsewhere t false = record { there = _; is = changed-same w.phase c _; other = λ x. absurd cc }

  -- ---- each place
  checks : (p : ℕ) (r : Request) (k : Key) (holder : Option ℕ) → w.phase c ≡ Called p r → route r ≡ writes k → w.holder (shard z k) ≡ holder
      → (e : Event) → (if is_some holder then None else Some (event.Check c)) ≡ Some e → happens z w e ≢ w
  checks p r k (Some h) at to is e next = absurd cc
  checks p r k None at to is e next =
      subst (λ x. happens z w x ≢ w) (same_Some _ _ next) (elsewhere (event.Check c) (Called p r) _ at
      (ap (checked z w c) at ∙ ap (checked_by z w c p r) to ∙ ap (checked_in z w c p r k) is)
      (judged_elsewhere p r k (verdict r (value w.log w.drawn k))))

  begins : (p : ℕ) (r : Request) (q : Route) → w.phase c ≡ Called p r → route r ≡ q
      → (e : Event) → goes_on is_held w.frontier (can_rise w) c (caller_phase.Called (first_step z.shards q)) ≡ Some e → happens z w e ≢ w
  unfolding shard
  begins p r (writes k) at to e next = checks p r k (w.holder (shard z k)) at to refl e next
  begins p r (gets k) at to e next =
      subst (λ x. happens z w x ≢ w) (same_Some _ _ next) (elsewhere (event.Read c) (Called p r) _ at
      (ap (read z w c) at ∙ ap (read_by z w c p r) to) (record { there = _; is = changed-same w.phase c _; other = λ x. absurd cc }))
  begins p r (lists kind namespace) at to e next =
      subst (λ x. happens z w x ≢ w) (same_Some _ _ next) (elsewhere (event.Read c) (Called p r) _ at
      (ap (read z w c) at ∙ ap (read_by z w c p r) to) (record { there = _; is = changed-same w.phase c _; other = λ x. absurd cc }))
  begins p r (lists_at kind namespace n) at to e next =
      subst (λ x. happens z w x ≢ w) (same_Some _ _ next) (elsewhere (event.ReadAt c) (Called p r) _ at
      (ap (read_at z w c) at ∙ ap (read_at_by z w c p r) to) (begun_elsewhere p r n (denied w.floor w.frontier n)))
  begins p r (compacts n) at to e next =
      subst (λ x. happens z w x ≢ w) (same_Some _ _ next) (elsewhere (event.Compact c) (Called p r) _ at
      (ap (compacted w c) at ∙ ap (compacted_by w c p) to) (floored_elsewhere p r n (denied w.floor w.frontier n)))

  rises_on : (o : Option Writing) → w.log w.frontier ≡ o → (e : Event) → (if is_some o then Some event.Raise else None) ≡ Some e → happens z w e ≢ w
  rises_on None is e next = absurd cc
  rises_on (Some t) is e next =
      subst (λ x. happens z w x ≢ w) (same_Some _ _ next) (λ same. let up = ap (λ u. u.frontier) (sym (ap (raised w) is) ∙ same) in absurd (omega (arith, up)))

  waits : (saw p : ℕ) (reply : Reply) (b : Bool) → nat_le saw w.frontier ≡ b → w.phase c ≡ Waiting saw p reply
      → (e : Event) → (if b then Some (event.Reply c) else if can_rise w then Some event.Raise else None) ≡ Some e → happens z w e ≢ w
  waits saw p reply true is at e next =
      subst (λ x. happens z w x ≢ w) (same_Some _ _ next) (elsewhere (event.Reply c) (Waiting saw p reply) _ at
      (ap (replied z w c) at ∙ ap (λ b. with_reply_if b w c reply) is) (record { there = _; is = changed-same w.phase c _; other = λ x. absurd cc }))
  waits saw p reply false is at e next = rises_on (w.log w.frontier) refl e next

  leads : (ph : Phase) → w.phase c ≡ ph → (e : Event) → goes_on is_held w.frontier (can_rise w) c (caller_phase_of z.shards ph) ≡ Some e → happens z w e ≢ w
  leads Idle at e next = absurd cc
  leads (Called p r) at e next = begins p r (route r) at refl e next
  leads (Holding t) at e next =
      subst (λ x. happens z w x ≢ w) (same_Some _ _ next) (elsewhere (event.Reserve c) (Holding t) _ at
      (ap (reserved z w c) at) (drawn_elsewhere t (nat_lt w.drawn z.capacity)))
  leads (Drawn d) at e next =
      subst (λ x. happens z w x ≢ w) (same_Some _ _ next) (elsewhere (event.Publish c) (Drawn d) _ at
      (ap (published z w c) at) (record { there = _; is = changed-same w.phase c _; other = λ x. absurd cc }))
  leads (Waiting saw p reply) at e next = waits saw p reply (nat_le saw w.frontier) refl at e next
  leads (Reading n p r [] found) at e next =
      subst (λ x. happens z w x ≢ w) (same_Some _ _ next) (elsewhere (event.Reply c) (Reading n p r [] found) _ at
      (ap (replied z w c) at) (record { there = _; is = changed-same w.phase c _; other = λ x. absurd cc }))
  leads (Reading n p r (s ∷ parts) found) at e next =
      subst (λ x. happens z w x ≢ w) (same_Some _ _ next) (elsewhere (event.Part c) (Reading n p r (s ∷ parts) found) _ at
      (ap (part z w c) at) (record { there = _; is = changed-same w.phase c _; other = λ x. let long : length parts ≡ suc (length parts) = ap (λ ph. length (parts_of ph)) x in absurd (omega (arith, long)) }))
  leads (Gone None) at e next = absurd cc
  leads (Gone (Some d)) at e next = absurd cc

pub next_is_enabled : (z : Size) (w : World) (c : ℕ) (e : Event) → next_step z w c ≡ Some e → happens z w e ≢ w
next_is_enabled z w c e next = leads z w c (w.phase c) refl e next

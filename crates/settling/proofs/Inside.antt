-- A controller's round over a plain store: only its first request asks for the set.
use Rattle.std.proofs.Common.{◌≡◌, ◌+◌, ◌==◌, ℕ, zero, suc, Bool, true, false, if◌then◌else◌, List, [], ◌∷◌, length, map, decimal, Some, None, arith, refl, sym, ap, ◌∙◌, subst, true≢false}
use Rattle.std.specs.Prelude.{◌||◌, ⊤}
use Rattle.std.specs.FinMap as finite
use Rattle.objects.specs.declared.key.Key.{Key}
use Rattle.objects.specs.declared.kind.Kind.TheVariants.{PersistentVolumeClaim}
use Rattle.objects.specs.declared.object.Object.{Object}
use Rattle.objects.specs.Again.{text_unless_zero}
use Rattle.objects.specs.Uid.{uid_text}
use Rattle.requests.specs.declared.request.Request.{Request}
use Rattle.requests.specs.declared.request.Request.TheVariants as request
use Rattle.requests.specs.declared.request.Request.TheVariants.{Compact, Create, Delete, Get, Update, UpdateStatus}
use Rattle.requests.specs.declared.reply.Reply.{Reply}
use Rattle.requests.specs.declared.reply.Reply.TheVariants.{Refused, Unchanged}
use Rattle.requests.specs.declared.reply.Reason.TheVariants.{StoreFull}
use Rattle.requests.specs.declared.verdict.Verdict.{Verdict}
use Rattle.requests.specs.declared.verdict.Verdict.TheVariants.{Refuse, Same, Write}
use Rattle.requests.specs.Change.{accepted, stamp}
use Rattle.requests.specs.Verdict.{on_delete}
use Rattle.collector.specs.Collectable.{deletion}
use Rattle.plain_store.specs.Route.{route}
use Rattle.plain_store.specs.Run.{after}
use Rattle.plain_store.specs.Store.{Store, carried_out, found, step, with_change}
use Rattle.rounds.specs.Accepted.{succeeded}
use Rattle.rounds.specs.Phase.{Phase, acts, asks, deletes, from_set, is_refusal, listing_old_claims, listing_revisions, reading_set, takes}
use Rattle.rounds.specs.Reconciler.{Reconciler}
use Rattle.cluster_runs.specs.Turns.{begins}
use Rattle.resting.specs.Accepting.{AreAccepted}
use Rattle.resting.specs.Still.{exchanged, exchanged_times, listed_in, owners_in, plan_over}
use Rattle.resting.specs.WholeRounds.{after_round, collection_over}
use Rattle.resting.proofs.Accepting.{Succeeds, carries_out, of_delete}
use Rattle.resting.proofs.Still.{least}

abbrev At : Store → Phase → Store × Phase
At s p = (s, p)

-- none of so many requests begins a round
abbrev pub Inside : ℕ → Reconciler → Store × Phase → Type 0
Inside zero c now = ⊤
Inside (suc n) c now = (begins (asks c now.1) ≡ false) × Inside n c (exchanged c now)

pub times_add : (c : Reconciler) (m n k : ℕ) (now : Store × Phase) → m + n ≡ k → exchanged_times k c now ≡ exchanged_times n c (exchanged_times m c now)
times_add c zero n k now is = let same : k ≡ n = omega arith in ap (λ (x : ℕ). exchanged_times x c now) same
times_add c (suc m) n zero now is = absurd (omega arith)
times_add c (suc m) n (suc k) now is = times_add c m n k (exchanged c now) (omega arith)

inside_add : (c : Reconciler) (m n k : ℕ) (now : Store × Phase) → m + n ≡ k → Inside m c now → Inside n c (exchanged_times m c now) → Inside k c now
inside_add c zero n k now is one two = let same : n ≡ k = omega arith in subst (λ (x : ℕ). Inside x c now) same two
inside_add c (suc m) n zero now is one two = absurd (omega arith)
inside_add c (suc m) n (suc k) now is one two = (one.0, inside_add c m n k (exchanged c now) (omega arith) one.1 two)

-- ---- the parts of a round
read_set : (c : Reconciler) (s : Store) (set : Object) → finite.get s.objects c.set ≡ Some set → exchanged c (s, reading_set) ≡ At s (listing_revisions set)
unfolding step route asks takes
read_set c s set e = ap (λ o. At s (from_set (found o))) e

lists_inside : (c : Reconciler) (s : Store) (set : Object) → Inside 3 c (s, listing_revisions set)
unfolding step route asks takes
lists_inside c s set = (refl, (refl, (refl, tt)))

lists_then_acts : (c : Reconciler) (s : Store) (set : Object) → exchanged_times 3 c (s, listing_revisions set) ≡ At s (acts (plan_over c s set))
unfolding step route asks takes
lists_then_acts c s set = refl

-- what a store takes for done is no read
not_begun : (r : Request) (reply : Reply) → succeeded r reply ≡ true → begins r ≡ false
not_begun (Create d) reply done = refl
not_begun (Get k) reply done = absurd (true≢false (sym done))
not_begun (request.List kind namespace exact) reply done = refl
not_begun (Update d) reply done = refl
not_begun (UpdateStatus d) reply done = refl
not_begun (Delete k uid version at) reply done = refl
not_begun (Compact n) reply done = refl

acts_inside : (c : Reconciler) (s : Store) (rs : List Request) → AreAccepted s rs → Inside (length rs) c (s, acts rs)
unfolding asks takes
acts_inside c s [] all = tt
acts_inside c s (r ∷ rs) all = (
  not_begun r (step s r).1 all.0,
  subst (λ b. Inside (length rs) c (At (step s r).0 (if b then acts rs else reading_set))) (sym all.0) (acts_inside c (step s r).0 rs all.1),
)

owners_inside : (c : Reconciler) (s : Store) → Inside 5 c (s, listing_old_claims)
unfolding step route asks takes
owners_inside c s = (refl, (refl, (refl, (refl, (refl, tt)))))

lists_owners : (c : Reconciler) (s : Store) → exchanged_times 5 c (s, listing_old_claims) ≡ At s (deletes (collection_over c s))
unfolding step route asks takes
lists_owners c s = ap (λ (n : ℕ). At s (deletes (c.collect (listed_in s c.set PersistentVolumeClaim) (owners_in s c.set) n))) (least s.counter)

-- ---- the deletes of claims, each of which may be refused
abbrev goes_on : Request → Reply → Bool
goes_on r reply = succeeded r reply || is_refusal reply

or_true : (b : Bool) → (b || true) ≡ true
or_true true = refl
or_true false = refl

goes_on_by : (s : Store) (k : Key) (r : Request) (v : Verdict) → Succeeds r v → goes_on r (carried_out s k v).1 ≡ true
goes_on_by s k r (Refuse reason) fits = or_true (succeeded r (Refused reason))
goes_on_by s k r (Same o) fits = ap (λ b. b || is_refusal (Unchanged o)) fits
goes_on_by s k r (Write c) fits =
    elim (s.counter == s.capacity) as (λ b. let done : Store × Reply = if b then (s, Refused StoreFull) else (with_change s k c, accepted c (stamp c (s.counter + 1))) in goes_on r done.1 ≡ true) [
      | true ↦ or_true (succeeded r (Refused StoreFull))
      | false ↦ ap (λ b. b || is_refusal (accepted c (stamp c (s.counter + 1)))) (fits (s.counter + 1))
    ]

deletion_goes_on : (s : Store) (o : Object) → goes_on (deletion o) (step s (deletion o)).1 ≡ true
unfolding step route
deletion_goes_on s o =
    let uid = text_unless_zero o.meta.uid (uid_text o.meta.uid) in
    let version = text_unless_zero o.meta.revision (decimal o.meta.revision) in
    goes_on_by s o.key (deletion o) (on_delete version uid None (finite.get s.objects o.key)) (of_delete o.key uid version None (finite.get s.objects o.key))

deletes_inside : (c : Reconciler) (s : Store) (os : List Object) → Inside (length (map deletion os)) c (s, deletes (map deletion os))
unfolding asks takes
deletes_inside c s [] = tt
deletes_inside c s (o ∷ os) = (
  refl,
  subst (λ b. Inside (length (map deletion os)) c (At (step s (deletion o)).0 (if b then deletes (map deletion os) else reading_set))) (sym (deletion_goes_on s o))
      (deletes_inside c (step s (deletion o)).0 os),
)

deletes_done : (c : Reconciler) (s : Store) (os : List Object) → exchanged_times (length (map deletion os)) c (s, deletes (map deletion os)) ≡ At (after s (map deletion os)) reading_set
unfolding asks takes
deletes_done c s [] = refl
deletes_done c s (o ∷ os) =
    ap (λ b. exchanged_times (length (map deletion os)) c (At (step s (deletion o)).0 (if b then deletes (map deletion os) else reading_set))) (deletion_goes_on s o)
    ∙ deletes_done c (step s (deletion o)).0 os

-- ---- a round
-- after its first request a round has these, none of which begins one
module _ (c : Reconciler) (s : Store) (set : Object) (there : finite.get s.objects c.set ≡ Some set) (all : AreAccepted s (plan_over c s set))
    (os : List Object) (collected : collection_over c (after s (plan_over c s set)) ≡ map deletion os) where
  abbrev plan : List Request
  plan = plan_over c s set

  abbrev planned : Store
  planned = after s (plan_over c s set)

  abbrev pub more_requests : ℕ
  more_requests = 3 + (length (plan_over c s set) + (5 + length (map deletion os)))

  first : exchanged c (s, reading_set) ≡ At s (listing_revisions set)
  first = read_set c s set there

  pub round_inside : Inside more_requests c (exchanged c (s, reading_set))
  round_inside =
      let p = length plan in
      let q = length (map deletion os) in
      let at_deletes : exchanged_times 5 c (planned, listing_old_claims) ≡ At planned (deletes (map deletion os)) = lists_owners c planned ∙ ap (λ rs. At planned (deletes rs)) collected in
      subst (Inside more_requests c) (sym first)
      (inside_add c 3 (p + (5 + q)) more_requests (At s (listing_revisions set)) refl (lists_inside c s set)
      (subst (Inside (p + (5 + q)) c) (sym (lists_then_acts c s set))
      (inside_add c p (5 + q) (p + (5 + q)) (At s (acts plan)) refl (acts_inside c s plan all)
      (subst (Inside (5 + q) c) (sym (carries_out c s plan all))
      (inside_add c 5 q (5 + q) (At planned listing_old_claims) refl (owners_inside c planned)
      (subst (Inside q c) (sym at_deletes) (deletes_inside c planned os)))))))

  pub round_done : exchanged_times more_requests c (exchanged c (s, reading_set)) ≡ At (after_round c s set) reading_set
  round_done =
      let p = length plan in
      let q = length (map deletion os) in
      ap (exchanged_times more_requests c) first
      ∙ times_add c 3 (p + (5 + q)) more_requests (At s (listing_revisions set)) refl
      ∙ ap (exchanged_times (p + (5 + q)) c) (lists_then_acts c s set)
      ∙ times_add c p (5 + q) (p + (5 + q)) (At s (acts plan)) refl
      ∙ ap (exchanged_times (5 + q) c) (carries_out c s plan all)
      ∙ times_add c 5 q (5 + q) (At planned listing_old_claims) refl
      ∙ ap (exchanged_times q c) (lists_owners c planned ∙ ap (λ rs. At planned (deletes rs)) collected)
      ∙ deletes_done c planned os
      ∙ ap (λ rs. At (after planned rs) reading_set) (sym collected)

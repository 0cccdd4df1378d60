-- Writes under keys of their own are accepted one after another, if the store would accept each; and a controller carries out a
-- plan whose requests are accepted.
use Rattle.std.proofs.Common.{◌≡◌, ◌≢◌, ◌+◌, ◌≤◌, ◌<◌, ℕ, true, false, if◌then◌else◌, List, [], ◌∷◌, length, codes, Option, Some, None, arith, refl, sym, ap, ◌∙◌, true≢false}
use Rattle.std.specs.Prelude.{⊤}
use Rattle.std.specs.FinMap as finite
use Rattle.std.specs.List.{AllByRecursion}
use Rattle.std.specs.Option.{is_some}
use Rattle.std.proofs.lemmas.Option.{same_Some}
use Rattle.objects.specs.declared.key.Key.{Key}
use Rattle.objects.specs.declared.object.Draft.{Draft}
use Rattle.objects.specs.declared.object.Object.{Object}
use Rattle.objects.specs.Same.{same_data}
use Rattle.requests.specs.declared.request.Request.{Request}
use Rattle.requests.specs.declared.request.Request.TheVariants as request
use Rattle.requests.specs.declared.request.Request.TheVariants.{Compact, Create, Delete, Get, Update, UpdateStatus}
use Rattle.requests.specs.declared.reply.Reason.TheVariants.{AlreadyExists, Conflict, Invalid}
use Rattle.requests.specs.declared.reply.Reply.{Reply}
use Rattle.requests.specs.declared.reply.Reply.TheVariants.{Unchanged}
use Rattle.requests.specs.declared.verdict.Verdict.{Verdict}
use Rattle.requests.specs.declared.verdict.Verdict.TheVariants.{Refuse, Same, Write}
use Rattle.requests.specs.Change.{accepted, creates, marks, stamp, updates}
use Rattle.requests.specs.Keys.{key_named}
use Rattle.requests.specs.Verdict.{born, changes_data, conflicts, deleted, graceful, has_status, marked, nonempty, on_create, on_delete, on_status, on_status_of, on_update, same_member, status_unless_same, unless_same, updated, verdict, with_status_of}
use Rattle.plain_store.specs.Route.{route}
use Rattle.plain_store.specs.Run.{after}
use Rattle.plain_store.specs.Store.{Store, carried_out, step}
use Rattle.plain_store.proofs.OneKey.{step_elsewhere}
use Rattle.plain_store.proofs.Past.{counter_step}
use Rattle.rounds.specs.Accepted.{succeeded}
use Rattle.rounds.specs.Phase.{Phase, acts, asks, listing_old_claims, reading_set, takes}
use Rattle.rounds.specs.Reconciler.{Reconciler}
use Rattle.resting.specs.Accepting.{AreAccepted, IsAcceptable, NameApart, is_refused}
use Rattle.resting.specs.Still.{exchanged_times, plan_over}
use Rattle.resting.proofs.Acts.{capacity_step}
use Rattle.resting.proofs.Still.{reads_and_plans}
use Rattle.resting.proofs.Turns.{carried}

-- ---- one request
-- its verdict leads to a reply that its sender takes for success, unless it is a refusal
abbrev pub Succeeds : Request → Verdict → Type 0
Succeeds r (Refuse reason) = ⊤
Succeeds r (Same o) = succeeded r (Unchanged o) ≡ true
Succeeds r (Write c) = (n : ℕ) → succeeded r (accepted c (stamp c n)) ≡ true

of_create : (d : Draft) (current : Option Object) → Succeeds (Create d) (on_create d current)
of_create d current =
    elim (is_some (nonempty d.version)) as (λ b. Succeeds (Create d) (if b then Refuse Invalid else if is_some current then Refuse AlreadyExists else Write (creates (born d.object)))) [
      | true ↦ tt
      | false ↦ elim (is_some current) as (λ b. Succeeds (Create d) (if b then Refuse AlreadyExists else Write (creates (born d.object)))) [ true ↦ tt | false ↦ λ n. refl ]
    ]

of_update : (d : Draft) (current : Option Object) → Succeeds (Update d) (on_update d current)
of_update d None = tt
of_update d (Some o) =
    elim (conflicts d.version d.uid o) as (λ b. Succeeds (Update d) (if b then Refuse Conflict else if changes_data d o then Refuse Invalid else unless_same o (updated o d))) [
      | true ↦ tt
      | false ↦ elim (changes_data d o) as (λ b. Succeeds (Update d) (if b then Refuse Invalid else unless_same o (updated o d))) [
        | true ↦ tt
        | false ↦ elim (same_data o.body (updated o d).body) as (λ b. Succeeds (Update d) (if b then Same o else Write (updates (updated o d)))) [ true ↦ refl | false ↦ λ n. refl ]
      ]
    ]

of_status_of : (d : Draft) (current : Option Object) → Succeeds (UpdateStatus d) (on_status_of d current)
of_status_of d None = tt
of_status_of d (Some o) =
    elim (conflicts d.version d.uid o) as (λ b. Succeeds (UpdateStatus d) (if b then Refuse Conflict else status_unless_same o d)) [
      | true ↦ tt
      | false ↦ elim (same_member (codes "status") o.body d.object.body) as (λ b. Succeeds (UpdateStatus d) (if b then Same o else Write (updates (with_status_of o d)))) [ true ↦ refl | false ↦ λ n. refl ]
    ]

of_status : (d : Draft) (current : Option Object) → Succeeds (UpdateStatus d) (on_status d current)
of_status d current = elim (has_status d.object.key.kind) as (λ b. Succeeds (UpdateStatus d) (if b then on_status_of d current else Refuse Invalid)) [ true ↦ of_status_of d current | false ↦ tt ]

of_deleted : (k : Key) (uid version at time : Option (List ℕ)) (o : Object) → Succeeds (Delete k uid version at) (deleted time o)
of_deleted k uid version at None o = λ n. refl
of_deleted k uid version at (Some time) o =
    elim (is_some o.meta.deletion) as (λ b. Succeeds (Delete k uid version at) (if b then Same o else Write (marks (marked time o)))) [ true ↦ refl | false ↦ λ n. refl ]

pub of_delete : (k : Key) (uid version at : Option (List ℕ)) (current : Option Object) → Succeeds (Delete k uid version at) (on_delete version uid at current)
of_delete k uid version at None = tt
of_delete k uid version at (Some o) =
    elim (conflicts version uid o) as (λ b. Succeeds (Delete k uid version at) (if b then Refuse Conflict else deleted (graceful o.key.kind at) o)) [
      | true ↦ tt
      | false ↦ of_deleted k uid version at (graceful o.key.kind at) o
    ]

succeeds : (s : Store) (k : Key) (r : Request) (v : Verdict) → Succeeds r v → is_refused v ≡ false → s.counter < s.capacity → succeeded r (carried_out s k v).1 ≡ true
succeeds s k r (Refuse reason) fits kept room = absurd (true≢false kept)
succeeds s k r (Same o) fits kept room = fits
succeeds s k r (Write c) fits kept room = ap (λ (x : Store × Reply). succeeded r x.1) (carried s k c room) ∙ fits (s.counter + 1)

at_own_key : (s : Store) (r : Request) (k q : Key) → Some k ≡ Some q → is_refused (verdict r (finite.get s.objects q)) ≡ false → is_refused (verdict r (finite.get s.objects k)) ≡ false
at_own_key s r k q same kept =
    let key : k ≡ q = same_Some k q same in ap (λ (x : Key). is_refused (verdict r (finite.get s.objects x))) key ∙ kept

pub is_accepted : (s : Store) (r : Request) → IsAcceptable s r → s.counter < s.capacity → succeeded r (step s r).1 ≡ true
unfolding step route
is_accepted s (Create d) is room = succeeds s d.object.key (Create d) (on_create d (finite.get s.objects d.object.key)) (of_create d (finite.get s.objects d.object.key)) (at_own_key s (Create d) d.object.key is.key is.named is.fits) room
is_accepted s (Update d) is room = succeeds s d.object.key (Update d) (on_update d (finite.get s.objects d.object.key)) (of_update d (finite.get s.objects d.object.key)) (at_own_key s (Update d) d.object.key is.key is.named is.fits) room
is_accepted s (UpdateStatus d) is room = succeeds s d.object.key (UpdateStatus d) (on_status d (finite.get s.objects d.object.key)) (of_status d (finite.get s.objects d.object.key)) (at_own_key s (UpdateStatus d) d.object.key is.key is.named is.fits) room
is_accepted s (Delete k uid version at) is room = succeeds s k (Delete k uid version at) (on_delete version uid at (finite.get s.objects k)) (of_delete k uid version at (finite.get s.objects k)) (at_own_key s (Delete k uid version at) k is.key is.named is.fits) room
is_accepted s (Get k) is room = absurd (true≢false (sym is.write))
is_accepted s (request.List kind namespace exact) is room = absurd (true≢false (sym is.write))
is_accepted s (Compact n) is room = absurd (true≢false (sym is.write))

-- ---- one after another
still_acceptable : (s : Store) (r x : Request) → key_named x ≢ key_named r → IsAcceptable s x → IsAcceptable (step s r).0 x
still_acceptable s r x other is = record {
  write = is.write;
  key = is.key;
  named = is.named;
  fits = ap (λ found. is_refused (verdict x found)) (step_elsewhere s r is.key (λ same. other (is.named ∙ same))) ∙ is.fits;
}

pub all_still : (s : Store) (r : Request) (rs : List Request) → AllByRecursion (λ x. key_named x ≢ key_named r) rs → AllByRecursion (IsAcceptable s) rs → AllByRecursion (IsAcceptable (step s r).0) rs
all_still s r [] others all = tt
all_still s r (x ∷ rs) others all = (still_acceptable s r x others.0 all.0, all_still s r rs others.1 all.1)

pub all_accepted : (s : Store) (rs : List Request) → NameApart rs → AllByRecursion (IsAcceptable s) rs → s.counter + length rs ≤ s.capacity → AreAccepted s rs
all_accepted s [] apart all room = tt
all_accepted s (r ∷ rs) apart all room =
    let more = (counter_step s r).1 in
    let same = capacity_step s r in
    (is_accepted s r all.0 (omega (arith, room)), all_accepted (step s r).0 rs apart.1 (all_still s r rs apart.0 all.1) (omega (arith, room, more, same)))

-- ---- a controller carries them out
pub carries_out : (c : Reconciler) (s : Store) (rs : List Request) → AreAccepted s rs → exchanged_times (length rs) c (s, acts rs) ≡ (after s rs, listing_old_claims)
unfolding asks takes
carries_out c s [] all = refl
carries_out c s (r ∷ rs) all =
    let At : Phase → Store × Phase = λ p. ((step s r).0, p) in
    ap (λ b. exchanged_times (length rs) c (At (if b then acts rs else reading_set))) all.0 ∙ carries_out c (step s r).0 rs all.1

pub plan_is_carried_out : (c : Reconciler) (s : Store) (set : Object) → finite.get s.objects c.set ≡ Some set → AreAccepted s (plan_over c s set)
    → exchanged_times (length (plan_over c s set)) c (exchanged_times 4 c (s, reading_set)) ≡ (after s (plan_over c s set), listing_old_claims)
plan_is_carried_out c s set there all =
    ap (exchanged_times (length (plan_over c s set)) c) (reads_and_plans c s set there) ∙ carries_out c s (plan_over c s set) all

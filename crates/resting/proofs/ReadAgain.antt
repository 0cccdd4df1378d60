-- A set whose status a plan writes is read again as it was, but for what its status says.
use Rattle.std.proofs.Common.{◌≡◌, ◌≢◌, ◌⊎◌, inl, inr, ◌==◌, ◌+◌, ℕ, true, false, if◌then◌else◌, List, [], ◌∷◌, codes, bytes_eq, option_and_then, Option, Some, Ok, refl, sym, ap, ◌∙◌, subst, true≢false}
use Rattle.std.specs.List.{AllByRecursion}
use Rattle.serde_json.specs.Data.{Data, Members, array, boolean, null, number, object, put, string, unsigned}
use Rattle.serde_json.specs.Find.{as_object}
use Rattle.serde_json.proofs.Views.{get_member-put}
use Rattle.objects.specs.declared.object.Object.{Object}
use Rattle.objects.specs.Building.{put_number}
use Rattle.objects.specs.Status.{member_of, with_member}
use Rattle.objects.proofs.BodyMembers.{member_of-with_member, member_of-with_other}
use Rattle.requests.specs.declared.request.Request.{Request}
use Rattle.requests.specs.declared.request.Request.TheVariants.{UpdateStatus}
use Rattle.requests.specs.declared.reply.Reply.{Reply}
use Rattle.requests.specs.declared.reply.Reply.TheVariants.{Refused}
use Rattle.requests.specs.declared.reply.Reason.TheVariants.{Conflict, Invalid, StoreFull}
use Rattle.requests.specs.declared.verdict.Verdict.{Verdict}
use Rattle.requests.specs.declared.verdict.Verdict.TheVariants.{Refuse, Same, Write}
use Rattle.requests.specs.Change.{accepted, stamp, updates}
use Rattle.requests.specs.Verdict.{conflicts, has_status, on_status, on_status_of, same_member, status_unless_same, with_status_of}
use Rattle.set_views.specs.declared.fault.PlanError.TheVariants.{BadSpec, OrdinalTooLarge}
use Rattle.set_views.specs.Claims.{claims_in}
use Rattle.set_views.specs.Set.{SetParts}
use Rattle.set_views.specs.SetReading.{range_fits, set_of, set_with}
use Rattle.set_views.specs.Specified.{SpecifiedParts, found}
use Rattle.set_views.specs.Steps.{◌>>=◌, guarded, required}
use Rattle.manifests.specs.BuiltStatus.{StatusParts, new_status, old_status, set_with as with_status}
use Rattle.plain_store.specs.AtKey.{Has}
use Rattle.plain_store.specs.Route.{route}
use Rattle.plain_store.specs.Run.{after}
use Rattle.plain_store.specs.Store.{Store, carried_out, step, with_change}
use Rattle.plain_store.proofs.OneKey.{step_elsewhere}
use Rattle.controllers.specs.Planned.{as_read}
use Rattle.resting.specs.RoundsOver.{IsAlike}
use Rattle.resting.proofs.AcceptedPlans.{IsReadAs, read_as}
use Rattle.resting.proofs.Acts.{IsElsewhere}
use Rattle.resting.proofs.ReadParts.{ReadsAlike, alike_itself, collisions_by, counted_in, is_from, specified_again}
use Rattle.resting.proofs.Turns.{written}

-- ---- reading
pub record IsReadLike (set : SetParts) (p : Object) (now : SetParts) : Type 0 where
  pub read : set_of p ≡ Ok now
  pub object : now.object ≡ p
  pub alike : IsAlike set now
  pub template : now.template ≡ set.template
  pub collisions : now.collisions ≡ set.collisions
  pub claims : now.claims ≡ set.claims
  pub when_deleted : now.when_deleted ≡ set.when_deleted
  pub history_limit : now.history_limit ≡ set.history_limit

pub read_again : (o p : Object) (set : SetParts) → set_of o ≡ Ok set → ReadsAlike o p → (now : SetParts) × IsReadLike set p now
unfolding set_of
read_again o p set is a =
    let r : IsReadAs o set = read_as o set is in
    let parts : SpecifiedParts = r.0 in
    let now : SetParts = set_with p parts r.1 in
    let same : set_with o parts r.1 ≡ set = sym r.5 in (
      now,
      record {
        read =
            ap (λ s. required BadSpec s >>= λ x. required BadSpec (claims_in (found (codes "volumeClaimTemplates") x.spec)) >>= λ claims. guarded OrdinalTooLarge (range_fits x.counts) (set_with p x claims)) (specified_again o p a ∙ r.2)
            ∙ (ap (λ m. required BadSpec m >>= λ claims. guarded OrdinalTooLarge (range_fits parts.counts) (set_with p parts claims)) r.3
            ∙ ap (λ b. guarded OrdinalTooLarge b now) r.4);
        object = refl;
        alike = record {
          key = a.key ∙ ap (λ (x : SetParts). x.object.key) same;
          uid = a.uid ∙ ap (λ (x : SetParts). x.object.meta.uid) same;
          start = ap (λ (x : SetParts). x.start) same;
          replicas = ap (λ (x : SetParts). x.replicas) same;
          policy = ap (λ (x : SetParts). x.policy) same;
          strategy = ap (λ (x : SetParts). x.strategy) same;
        };
        template = ap (λ (x : SetParts). x.template) same;
        collisions = ap (λ (x : SetParts). x.collisions) same;
        claims = ap (λ (x : SetParts). x.claims) same;
        when_deleted = ap (λ (x : SetParts). x.when_deleted) same;
        history_limit = ap (λ (x : SetParts). x.history_limit) same;
      },
    )

-- ---- a status
pub replaced : (b : Data) (ms : Members) (v : Option Data) → option_and_then as_object (member_of (codes "spec") b) ≡ Some ms → member_of (codes "status") (with_member (codes "status") v b) ≡ v
replaced null ms v is = absurd (cc)
replaced (boolean b) ms v is = absurd (cc)
replaced (number n) ms v is = absurd (cc)
replaced (string s) ms v is = absurd (cc)
replaced (array ds) ms v is = absurd (cc)
replaced (object os) ms v is = member_of-with_member (codes "status") v os

not_spec : codes "spec" ≢ codes "status"
not_spec same = true≢false (ap (λ (l : List ℕ). bytes_eq l (codes "spec")) same)

-- the members of a new status but the count of collisions
abbrev behind_the_count : SetParts → StatusParts → Members → Members
behind_the_count set parts old =
    put_number (codes "currentReplicas") parts.current_replicas
    (put (codes "currentRevision") (string parts.current_revision)
    (put_number (codes "observedGeneration") set.object.meta.generation
    (put_number (codes "readyReplicas") parts.ready_replicas
    (put_number (codes "replicas") parts.replicas
    (put (codes "updateRevision") (string parts.update_revision)
    (put_number (codes "updatedReplicas") parts.updated_replicas old))))))

module _ (set : SetParts) (is_read : set_of set.object ≡ Ok set) where
  abbrev status_of : StatusParts → Data
  status_of parts = object (new_status set parts (old_status set))

  abbrev written_set : StatusParts → Object
  written_set parts = with_status set (status_of parts)

  after_status : (parts : StatusParts) (p : Object) (n : ℕ) → ReadsAlike set.object p → ReadsAlike set.object (stamp (updates (with_status_of p (as_read (written_set parts)))) n)
  after_status parts p n a =
      let r : IsReadAs set.object set = read_as set.object set is_read in
      let from = is_from set.object r.0 r.2 in
      let v = member_of (codes "status") (written_set parts).body in
      let status : v ≡ Some (status_of parts) = replaced set.object.body r.0.spec (Some (status_of parts)) from.0 in
      let now : member_of (codes "status") (with_member (codes "status") v p.body) ≡ v = replaced p.body r.0.spec v (ap (option_and_then as_object) a.spec ∙ from.0) in
      let count : r.0.counts.collisions ≡ set.collisions = ap (λ (x : SetParts). x.collisions) (sym r.5) in
      let members : Members = new_status set parts (old_status set) in
      let counts : collisions_by (Some (status_of parts)) ≡ Some r.0.counts.collisions =
      counted_in r.0.counts.collisions members from.2 (get_member-put (codes "collisionCount") (number (unsigned set.collisions)) (behind_the_count set parts (old_status set)) ∙ ap (λ (m : ℕ). Some (number (unsigned m))) (sym count)) in
      record {
        key = a.key;
        uid = a.uid;
        spec = member_of-with_other (codes "spec") (codes "status") v p.body not_spec ∙ a.spec;
        collisions = ap collisions_by (now ∙ status) ∙ (counts ∙ sym from.1);
      }

  -- ---- a store
  abbrev pub IsLike : Store → Type 0
  IsLike s = (p : Object) × Has s set.object.key p × ReadsAlike set.object p

  -- the request is about another key, or writes the set's status
  abbrev pub IsOnStatus : Request → Type 0
  IsOnStatus r = IsElsewhere set.object.key r ⊎ ((parts : StatusParts) × (r ≡ UpdateStatus (as_read (written_set parts))))

  by_verdict : (s : Store) (parts : StatusParts) (p : Object) → Has s set.object.key p → ReadsAlike set.object p → IsLike (carried_out s set.object.key (on_status (as_read (written_set parts)) (Some p))).0
  by_verdict s parts p there a =
      let d = as_read (written_set parts) in
      let k = set.object.key in
      let P : Verdict → Type 0 = λ v. IsLike (carried_out s k v).0 in
      let q : Object = stamp (updates (with_status_of p d)) (s.counter + 1) in
      let kept : IsLike s = (p, there, a) in
      elim (has_status d.object.key.kind) as (λ b. P (if b then on_status_of d (Some p) else Refuse Invalid)) [
        | false ↦ kept
        | true ↦ elim (conflicts d.version d.uid p) as (λ b. P (if b then Refuse Conflict else status_unless_same p d)) [
          | true ↦ kept
          | false ↦ elim (same_member (codes "status") p.body d.object.body) as (λ b. P (if b then Same p else Write (updates (with_status_of p d)))) [
            | true ↦ kept
            | false ↦ elim (s.counter == s.capacity) as (λ b. let done : Store × Reply = if b then (s, Refused StoreFull) else (with_change s k (updates (with_status_of p d)), accepted (updates (with_status_of p d)) q) in IsLike done.0) [
              | true ↦ kept
              | false ↦ (q, written s k q, after_status parts p (s.counter + 1) a)
            ]
          ]
        ]
      ]

  by_status : (s : Store) (parts : StatusParts) → IsLike s → IsLike (step s (UpdateStatus (as_read (written_set parts)))).0
  unfolding step route
  by_status s parts like =
      let P : Option Object → Type 0 = λ x. IsLike (carried_out s set.object.key (on_status (as_read (written_set parts)) x)).0 in
      subst P (sym like.1) (by_verdict s parts like.0 like.1 like.2)

  by_one : (s : Store) (r : Request) → IsOnStatus r → IsLike s → IsLike (step s r).0
  by_one s r (inl other) like = (like.0, step_elsewhere s r set.object.key other ∙ like.1, like.2)
  by_one s r (inr status) like = let P : Request → Type 0 = λ x. IsLike (step s x).0 in subst P (sym status.1) (by_status s status.0 like)

  pub stays_like : (s : Store) (rs : List Request) → AllByRecursion IsOnStatus rs → IsLike s → IsLike (after s rs)
  stays_like s [] all like = like
  stays_like s (r ∷ rs) all like = stays_like (step s r).0 rs all.1 (by_one s r all.0 like)

  pub like_itself : (s : Store) → Has s set.object.key set.object → IsLike s
  like_itself s there = (set.object, there, alike_itself set.object)

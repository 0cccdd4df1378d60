-- The replies that a controller has got in each phase.
use Rattle.std.proofs.Common.{◌≡◌, ◌⊎◌, inl, inr, min, ℕ, Bool, true, false, cond, List, [], ◌∷◌, ◌++◌, append_assoc, Option, refl, sym, ap, subst, ◌∙◌}
use Rattle.std.specs.Prelude.{⊤, ◌||◌}
use Rattle.objects.specs.declared.key.Key.{Key}
use Rattle.objects.specs.declared.kind.Kind.{Kind}
use Rattle.objects.specs.declared.kind.Kind.TheVariants.{StatefulSet, Pod, PersistentVolumeClaim, ControllerRevision}
use Rattle.objects.specs.declared.object.Draft.{Draft}
use Rattle.objects.specs.declared.object.Object.{Object}
use Rattle.requests.specs.declared.request.Request.{Request}
use Rattle.requests.specs.declared.request.Request.TheVariants.{Create, Get, Delete}
use Rattle.requests.specs.declared.reply.Reply.{Reply}
use Rattle.requests.specs.declared.reply.Reply.TheVariants.{Found, Listed, Refused}
use Rattle.requests.specs.declared.reply.Reason.TheVariants.{NotFound}
use Rattle.requests.specs.Lists.{Has}
use Rattle.rounds.specs.Accepted.{succeeded}
use Rattle.rounds.specs.Incarnation.{Follows, phase_after}
use Rattle.rounds.specs.Phase.{Phase, reading_set, listing_revisions, listing_pods, listing_claims, acting, listing_old_claims, listing_owner_sets, listing_owner_pods, listing_owner_revisions, listing_owner_claims, deleting, acts, asks, deletes, from_list, from_set, is_refusal, list_of, takes}
use Rattle.rounds.specs.Planned.{IsCollected, IsPlanned, asked}
use Rattle.rounds.specs.Reconciler.{Reconciler}
use Rattle.rounds.specs.Sound.{IsAction, IsCollection, IsSound}
use Rattle.rounds.specs.Transcript.{Exchange}
use Rattle.rounds.proofs.Lists.{among_right}

abbrev EndsIn : List Exchange → List Exchange → Type 0
EndsIn own last = (before : List Exchange) × (own ≡ before ++ last)

abbrev SetOf : Reconciler → Object → Exchange
SetOf c set = (Get c.set, Found set)

abbrev ListOf : Reconciler → Kind → List Object → ℕ → Exchange
ListOf c kind objects at = (list_of c kind, Listed objects at)

abbrev pub Knows : Reconciler → List Exchange → Phase → Type 0
Knows c own reading_set = ⊤
Knows c own (listing_revisions set) = EndsIn own (SetOf c set ∷ [])
Knows c own (listing_pods set rs) = (n : ℕ) × EndsIn own (SetOf c set ∷ ListOf c ControllerRevision rs n ∷ [])
Knows c own (listing_claims set rs ps) = (n : ℕ) × (m : ℕ) × EndsIn own (SetOf c set ∷ ListOf c ControllerRevision rs n ∷ ListOf c Pod ps m ∷ [])
Knows c own (acting next later) = (plan : IsPlanned c own next) × (plan.later ≡ later)
Knows c own listing_old_claims = ⊤
Knows c own (listing_owner_sets cs) = (n : ℕ) × EndsIn own (ListOf c PersistentVolumeClaim cs n ∷ [])
Knows c own (listing_owner_pods cs ss at) = (n : ℕ) × EndsIn own (ListOf c PersistentVolumeClaim cs n ∷ ListOf c StatefulSet ss at ∷ [])
Knows c own (listing_owner_revisions cs ss ps at) =
    (n : ℕ) × (i : ℕ) × (j : ℕ) × (at ≡ min i j) × EndsIn own (ListOf c PersistentVolumeClaim cs n ∷ ListOf c StatefulSet ss i ∷ ListOf c Pod ps j ∷ [])
Knows c own (listing_owner_claims cs ss ps rs at) =
    (n : ℕ) × (i : ℕ) × (j : ℕ) × (k : ℕ) × (at ≡ min (min i j) k)
    × EndsIn own (ListOf c PersistentVolumeClaim cs n ∷ ListOf c StatefulSet ss i ∷ ListOf c Pod ps j ∷ ListOf c ControllerRevision rs k ∷ [])
Knows c own (deleting next later) = (is : IsCollected c own next) × (is.later ≡ later)

-- ---- one more exchange

ends_more : (own : List Exchange) (e : Exchange) (last : List Exchange) → EndsIn own last → EndsIn (own ++ e ∷ []) (last ++ e ∷ [])
ends_more own e last ends = (ends.0, ap (λ l. l ++ e ∷ []) ends.1 ∙ append_assoc ends.0 last (e ∷ []))

-- ---- replies

by_list : (next : List Object → ℕ → Phase) (P : Reply → Phase → Type 0) → ((reply : Reply) → P reply reading_set)
    → ((os : List Object) (n : ℕ) → P (Listed os n) (next os n)) → (reply : Reply) → P reply (from_list next reply)
by_list next P over goes (Listed os n) = goes os n
by_list next P over goes reply = over reply

by_test : (b : Bool) (P : Phase → Type 0) (on off : Phase) → P on → P off → P (cond b on off)
by_test true P on off one two = one
by_test false P on off one two = two

set_known : (c : Reconciler) (own : List Exchange) (reply : Reply) → Knows c (own ++ (Get c.set, reply) ∷ []) (from_set reply)
set_known c own (Found set) = (own, refl)
set_known c own (Refused NotFound) = tt
set_known c own (Refused reason) = tt
set_known c own reply = tt

-- a plan that was just made
planned : (c : Reconciler) (own : List Exchange) (set : Object) (rs ps cs : List Object) (n m k : ℕ) (todo : List Request) → c.plan set rs ps cs ≡ todo
    → EndsIn own (SetOf c set ∷ ListOf c ControllerRevision rs n ∷ ListOf c Pod ps m ∷ ListOf c PersistentVolumeClaim cs k ∷ []) → Knows c own (acts todo)
planned c own set rs ps cs n m k [] is ends = tt
planned c own set rs ps cs n m k (r ∷ later) is ends = (
  record {
    before = ends.0;
    set = set;
    revisions = rs;
    revisions_at = n;
    pods = ps;
    pods_at = m;
    claims = cs;
    claims_at = k;
    done = [];
    later = later;
    answered = ends.1;
    planned = sym is;
  },
  refl,
)

asked_more : (done : List Exchange) (r : Request) (reply : Reply) (later : List Request) → asked (done ++ (r, reply) ∷ []) ++ later ≡ asked done ++ r ∷ later
asked_more [] r reply later = refl
asked_more (e ∷ done) r reply later = ap (λ l. e.0 ∷ l) (asked_more done r reply later)

-- what is left of it
acted : (c : Reconciler) (own : List Exchange) (r : Request) (later : List Request) (reply : Reply) (plan : IsPlanned c own r) → plan.later ≡ later
    → Knows c (own ++ (r, reply) ∷ []) (acts later)
unfolding ends_more
acted c own r [] reply plan is = tt
acted c own r (q ∷ qs) reply plan is = (
  record {
    before = plan.before;
    set = plan.set;
    revisions = plan.revisions;
    revisions_at = plan.revisions_at;
    pods = plan.pods;
    pods_at = plan.pods_at;
    claims = plan.claims;
    claims_at = plan.claims_at;
    done = plan.done ++ (r, reply) ∷ [];
    later = qs;
    answered = (ends_more own (r, reply) _ (plan.before, plan.answered)).1;
    planned = asked_more plan.done r reply (q ∷ qs) ∙ ap (λ l. asked plan.done ++ r ∷ l) (sym is) ∙ plan.planned;
  },
  refl,
)

-- a collection that was just made
collected : (c : Reconciler) (own : List Exchange) (cs ss ps rs os : List Object) (n i j k m : ℕ) (todo : List Request)
    → c.collect cs (ss ∷ ps ∷ rs ∷ os ∷ []) (min (min (min i j) k) m) ≡ todo
    → EndsIn own (ListOf c PersistentVolumeClaim cs n ∷ ListOf c StatefulSet ss i ∷ ListOf c Pod ps j ∷ ListOf c ControllerRevision rs k ∷ ListOf c PersistentVolumeClaim os m ∷ [])
    → Knows c own (deletes todo)
collected c own cs ss ps rs os n i j k m [] is ends = tt
collected c own cs ss ps rs os n i j k m (r ∷ later) is ends = (
  record {
    before = ends.0;
    claims = cs;
    claims_at = n;
    sets = ss;
    sets_at = i;
    pods = ps;
    pods_at = j;
    revisions = rs;
    revisions_at = k;
    others = os;
    others_at = m;
    done = [];
    later = later;
    answered = ends.1;
    collected = sym is;
  },
  refl,
)

-- what is left of it
passed : (c : Reconciler) (own : List Exchange) (r : Request) (later : List Request) (reply : Reply) (is : IsCollected c own r) → is.later ≡ later
    → Knows c (own ++ (r, reply) ∷ []) (deletes later)
unfolding ends_more
passed c own r [] reply is same = tt
passed c own r (q ∷ qs) reply is same = (
  record {
    before = is.before;
    claims = is.claims;
    claims_at = is.claims_at;
    sets = is.sets;
    sets_at = is.sets_at;
    pods = is.pods;
    pods_at = is.pods_at;
    revisions = is.revisions;
    revisions_at = is.revisions_at;
    others = is.others;
    others_at = is.others_at;
    done = is.done ++ (r, reply) ∷ [];
    later = qs;
    answered = (ends_more own (r, reply) _ (is.before, is.answered)).1;
    collected = asked_more is.done r reply (q ∷ qs) ∙ ap (λ l. asked is.done ++ r ∷ l) (sym same) ∙ is.collected;
  },
  refl,
)

-- ---- a reply to the request of the phase

knows_next : (c : Reconciler) (own : List Exchange) (phase : Phase) (reply : Reply) → Knows c own phase
    → Knows c (own ++ (asks c phase, reply) ∷ []) (takes c phase reply)
unfolding asks takes
knows_next c own reading_set reply knows = set_known c own reply
knows_next c own (listing_revisions set) reply knows =
    by_list (λ rs n. listing_pods set rs) (λ x p. Knows c (own ++ (list_of c ControllerRevision, x) ∷ []) p) (λ x. tt)
    (λ rs n. (n, ends_more own (ListOf c ControllerRevision rs n) (SetOf c set ∷ []) knows)) reply
knows_next c own (listing_pods set rs) reply knows =
    by_list (λ ps m. listing_claims set rs ps) (λ x p. Knows c (own ++ (list_of c Pod, x) ∷ []) p) (λ x. tt)
    (λ ps m. (knows.0, m, ends_more own (ListOf c Pod ps m) (SetOf c set ∷ ListOf c ControllerRevision rs knows.0 ∷ []) knows.1)) reply
knows_next c own (listing_claims set rs ps) reply knows =
    by_list (λ cs k. acts (c.plan set rs ps cs)) (λ x p. Knows c (own ++ (list_of c PersistentVolumeClaim, x) ∷ []) p) (λ x. tt)
    (λ cs k. planned c (own ++ ListOf c PersistentVolumeClaim cs k ∷ []) set rs ps cs knows.0 knows.1 k (c.plan set rs ps cs) refl
    (ends_more own (ListOf c PersistentVolumeClaim cs k) (SetOf c set ∷ ListOf c ControllerRevision rs knows.0 ∷ ListOf c Pod ps knows.1 ∷ []) knows.2)) reply
knows_next c own (acting next later) reply knows =
    by_test (succeeded next reply) (Knows c (own ++ (next, reply) ∷ [])) (acts later) reading_set (acted c own next later reply knows.0 knows.1) tt
knows_next c own listing_old_claims reply knows =
    by_list (λ cs n. listing_owner_sets cs) (λ x p. Knows c (own ++ (list_of c PersistentVolumeClaim, x) ∷ []) p) (λ x. tt)
    (λ cs n. (n, (own, refl))) reply
knows_next c own (listing_owner_sets cs) reply knows =
    by_list (λ ss n. listing_owner_pods cs ss n) (λ x p. Knows c (own ++ (list_of c StatefulSet, x) ∷ []) p) (λ x. tt)
    (λ ss n. (knows.0, ends_more own (ListOf c StatefulSet ss n) (ListOf c PersistentVolumeClaim cs knows.0 ∷ []) knows.1)) reply
knows_next c own (listing_owner_pods cs ss at) reply knows =
    by_list (λ ps n. listing_owner_revisions cs ss ps (min at n)) (λ x p. Knows c (own ++ (list_of c Pod, x) ∷ []) p) (λ x. tt)
    (λ ps n. (knows.0, at, n, refl, ends_more own (ListOf c Pod ps n) (ListOf c PersistentVolumeClaim cs knows.0 ∷ ListOf c StatefulSet ss at ∷ []) knows.1)) reply
knows_next c own (listing_owner_revisions cs ss ps at) reply knows =
    by_list (λ rs n. listing_owner_claims cs ss ps rs (min at n)) (λ x p. Knows c (own ++ (list_of c ControllerRevision, x) ∷ []) p) (λ x. tt)
    (λ rs n. (
      knows.0,
      knows.1,
      knows.2,
      n,
      ap (λ m. min m n) knows.3,
      ends_more own (ListOf c ControllerRevision rs n)
          (ListOf c PersistentVolumeClaim cs knows.0 ∷ ListOf c StatefulSet ss knows.1 ∷ ListOf c Pod ps knows.2 ∷ []) knows.4,
    )) reply
knows_next c own (listing_owner_claims cs ss ps rs at) reply knows =
    by_list (λ os n. deletes (c.collect cs (ss ∷ ps ∷ rs ∷ os ∷ []) (min at n))) (λ x p. Knows c (own ++ (list_of c PersistentVolumeClaim, x) ∷ []) p) (λ x. tt)
    (λ os n. collected c (own ++ ListOf c PersistentVolumeClaim os n ∷ []) cs ss ps rs os knows.0 knows.1 knows.2 knows.3 n (c.collect cs (ss ∷ ps ∷ rs ∷ os ∷ []) (min at n))
    (ap (λ m. c.collect cs (ss ∷ ps ∷ rs ∷ os ∷ []) (min m n)) (sym knows.4))
    (ends_more own (ListOf c PersistentVolumeClaim os n)
    (ListOf c PersistentVolumeClaim cs knows.0 ∷ ListOf c StatefulSet ss knows.1 ∷ ListOf c Pod ps knows.2 ∷ ListOf c ControllerRevision rs knows.3 ∷ []) knows.5)) reply
knows_next c own (deleting next later) reply knows =
    by_test (succeeded next reply || is_refusal reply) (Knows c (own ++ (next, reply) ∷ [])) (deletes later) reading_set (passed c own next later reply knows.0 knows.1) tt

append_none : (l : List Exchange) → l ++ [] ≡ l
append_none [] = refl
append_none (x ∷ l) = ap (λ m. x ∷ m) (append_none l)

known_from : (c : Reconciler) (own : List Exchange) (phase : Phase) (es : List Exchange) → Knows c own phase → Follows c phase es → Knows c (own ++ es) (phase_after c phase es)
known_from c own phase [] knows follows = subst (λ l. Knows c l phase) (sym (append_none own)) knows
known_from c own phase (e ∷ es) knows follows =
    let again : (asks c phase, e.1) ≡ e = ap (λ r. (r, e.1)) (sym follows.0) in
    let next = subst (λ (x : Exchange). Knows c (own ++ x ∷ []) (takes c phase e.1)) again (knows_next c own phase e.1 knows) in
    subst (λ l. Knows c l (phase_after c (takes c phase e.1) es)) (append_assoc own (e ∷ []) es) (known_from c (own ++ e ∷ []) (takes c phase e.1) es next follows.1)

-- what an incarnation knows
pub known : (c : Reconciler) (own : List Exchange) → Follows c reading_set own → Knows c own (phase_after c reading_set own)
known c own follows = known_from c [] reading_set own tt follows

-- ---- by the request of a phase

pub action : (c : Reconciler) (own : List Exchange) (r : Request) → IsSound c → (plan : IsPlanned c own r) → IsAction (plan.revisions ++ plan.pods) r
action c own r sound plan =
    sound.plans plan.set plan.revisions plan.pods plan.claims r (subst (Has r) plan.planned (among_right r (asked plan.done) (r ∷ plan.later) (inl refl)))

pub is_collection : (c : Reconciler) (own : List Exchange) (r : Request) → IsSound c → (is : IsCollected c own r)
    → IsCollection is.claims (is.sets ∷ is.pods ∷ is.revisions ∷ is.others ∷ []) (min (min (min is.sets_at is.pods_at) is.revisions_at) is.others_at) r
is_collection c own r sound is =
    sound.collects is.claims (is.sets ∷ is.pods ∷ is.revisions ∷ is.others ∷ []) (min (min (min is.sets_at is.pods_at) is.revisions_at) is.others_at) r
    (subst (Has r) is.collected (among_right r (asked is.done) (r ∷ is.later) (inl refl)))

no_collection : (c : Reconciler) (own : List Exchange) (d : Draft) (r : Request) → IsSound c → IsCollected c own r → Create d ≡ r → ⊥
no_collection c own d r sound is same = let deletes = (is_collection c own r sound is).deletes in let both = same ∙ deletes in cc

-- a create is of a plan
pub created_by : (c : Reconciler) (own : List Exchange) (phase : Phase) (d : Draft) → IsSound c → Knows c own phase → Create d ≡ asks c phase → IsPlanned c own (Create d)
unfolding asks
created_by c own reading_set d sound knows is = cc
created_by c own (listing_revisions set) d sound knows is = cc
created_by c own (listing_pods set rs) d sound knows is = cc
created_by c own (listing_claims set rs ps) d sound knows is = cc
created_by c own (acting next later) d sound knows is = subst (IsPlanned c own) (sym is) knows.0
created_by c own listing_old_claims d sound knows is = cc
created_by c own (listing_owner_sets cs) d sound knows is = cc
created_by c own (listing_owner_pods cs ss at) d sound knows is = cc
created_by c own (listing_owner_revisions cs ss ps at) d sound knows is = cc
created_by c own (listing_owner_claims cs ss ps rs at) d sound knows is = cc
created_by c own (deleting next later) d sound knows is = absurd (no_collection c own d next sound knows.0 is)

-- a delete is of a plan or of a collector
pub deleted_by : (c : Reconciler) (own : List Exchange) (phase : Phase) (k : Key) (uid version at : Option (List ℕ)) → Knows c own phase → Delete k uid version at ≡ asks c phase
    → IsPlanned c own (Delete k uid version at) ⊎ IsCollected c own (Delete k uid version at)
unfolding asks
deleted_by c own reading_set k uid version at knows is = cc
deleted_by c own (listing_revisions set) k uid version at knows is = cc
deleted_by c own (listing_pods set rs) k uid version at knows is = cc
deleted_by c own (listing_claims set rs ps) k uid version at knows is = cc
deleted_by c own (acting next later) k uid version at knows is = inl (subst (IsPlanned c own) (sym is) knows.0)
deleted_by c own listing_old_claims k uid version at knows is = cc
deleted_by c own (listing_owner_sets cs) k uid version at knows is = cc
deleted_by c own (listing_owner_pods cs ss now) k uid version at knows is = cc
deleted_by c own (listing_owner_revisions cs ss ps now) k uid version at knows is = cc
deleted_by c own (listing_owner_claims cs ss ps rs now) k uid version at knows is = cc
deleted_by c own (deleting next later) k uid version at knows is = inr (subst (IsCollected c own) (sym is) knows.0)

-- Rounds of a controller and a kubelet over a store to which nobody else writes, one after another.
use Rattle.std.specs.Prelude.{◌≡◌, ◌≢◌, ◌≤◌, ℕ, zero, suc, List, [], Ok}
use Rattle.objects.specs.declared.kind.Kind.TheVariants.{ControllerRevision}
use Rattle.objects.specs.declared.object.Object.{Object}
use Rattle.set_views.specs.Firsts.{is_held}
use Rattle.set_views.specs.Set.{SetParts}
use Rattle.revisions.specs.Plan.{PlanParts, plan_of, settled}
use Rattle.revisions.specs.Revision.{listed}
use Rattle.pod_steps.specs.Listed.{replicas_in}
use Rattle.pod_steps.specs.Replicas.{Pods}
use Rattle.convergence.specs.Left.{condemned}
use Rattle.sets.specs.Plan.{most_actions}
use Rattle.sets.specs.PlanOfLists.{owned_of}
use Rattle.plain_store.specs.Store.{Store}
use Rattle.controllers.specs.Reconciler.{reconciler_with}
use Rattle.resting.specs.Acting.{IsReadIn, IsUnrefusedOver, MayAct, after_turn, views_in}
use Rattle.resting.specs.Still.{listed_in}
use Rattle.resting.specs.Turns.{MayTurn}
use Rattle.resting.specs.WholeRounds.{EndsRound}

-- the same set as another read has it, when only its status, its template or its claims have changed
pub record IsAlike (set other : SetParts) : Type 0 where
  pub key : other.object.key ≡ set.object.key
  pub uid : other.object.meta.uid ≡ set.object.meta.uid
  pub start : other.start ≡ set.start
  pub replicas : other.replicas ≡ set.replicas
  pub policy : other.policy ≡ set.policy
  pub strategy : other.strategy ≡ set.strategy

-- A round of a set's controller and a kubelet's turn lead from one store to the other. The plan is not refused.
pub record IsRoundOver (set : SetParts) (digits : ℕ) (s t : Store) : Type 0 where
  -- the set as the controller reads it
  pub now : SetParts
  pub key_is : now.object.key ≡ set.object.key
  pub is_read : IsReadIn s now
  pub plan : IsUnrefusedOver now digits s
  -- the time with which pods are marked
  pub moment : List ℕ
  pub is_time : moment ≢ []
  pub may_act : MayAct now most_actions s
  -- what the controller leaves
  pub between : Store
  pub ends : EndsRound (reconciler_with now.object.key digits moment) now.object s between
  pub may_turn : MayTurn now.object.key.namespace between
  pub left : t ≡ after_turn now.object.key.namespace between

-- so many rounds, one after another
abbrev pub AreRoundsOver : SetParts → ℕ → ℕ → Store → Store → Type 0
AreRoundsOver set digits zero s t = s ≡ t
AreRoundsOver set digits (suc k) s t = (next : Store) × IsRoundOver set digits s next × AreRoundsOver set digits k next t

-- Whenever the set is read in the store, this update revision is in place, unless its plan is refused.
abbrev pub IsInPlace : SetParts → ℕ → Object → Store → Type 0
IsInPlace set digits update s = (now : SetParts) (revisions : PlanParts) → IsReadIn s now → now.object.key ≡ set.object.key
    → plan_of now (is_held (listed now (listed_in s now.object.key ControllerRevision))) digits (owned_of now (listed_in s now.object.key ControllerRevision)) ≡ Ok revisions
    → (owned : List Object) × (current : Object) × (revisions ≡ settled owned current update)

-- no more pods are out of range than before
abbrev pub CondemnsNoMore : SetParts → List ℕ → Store → Store → Type 0
CondemnsNoMore set update s t = (current : List ℕ) (before later : Pods) → replicas_in set update current (views_in set s) ≡ Ok before → replicas_in set update current (views_in set t) ≡ Ok later
    → condemned set later ≤ condemned set before

-- Rounds, one after another.
use Rattle.std.proofs.Common.{◌≡◌, ◌⊎◌, inl, inr, ℕ, zero, suc, ◌+◌, ◌-◌, ◌≤◌, arith, refl, ap, subst}
use Rattle.set_views.specs.declared.policies.Policy.{Policy}
use Rattle.set_views.specs.declared.policies.Policy.TheVariants.{OrderedReady, Parallel}
use Rattle.set_views.specs.Set.{SetParts}
use Rattle.pod_steps.specs.Replicas.{AreInOrder, Pods}
use Rattle.convergence.specs.Left.{most_rounds, rounds_left}
use Rattle.convergence.specs.Rounds.{AreRounds, IsRound}
use Rattle.convergence.specs.Standing.{AreTended, Stands}
use Rattle.convergence.specs.Stopped.{IsStopped, IsUnstopped}
use Rattle.convergence.proofs.Falls.{falls, few_left, none_left_is_standing}
use Rattle.convergence.proofs.Kept.{next_are_tended, next_is_no_more, next_is_unstopped}
use Rattle.convergence.proofs.Parallel.{comes_nearer}
use Rattle.convergence.proofs.Stopped.{stopped_or_not}

-- under OrderedReady no pod stops a scale-down
abbrev IsFree : SetParts → Pods → Type 0
IsFree set pods = set.policy ≡ OrderedReady → IsUnstopped set pods

nearer : (set : SetParts) (pods next : Pods) → AreInOrder pods → AreTended pods → IsFree set pods → IsRound set pods next → rounds_left set next ≤ rounds_left set pods - 1
nearer set pods next sorted are free round =
    elim (set.policy) as (λ (p : Policy). set.policy ≡ p → rounds_left set next ≤ rounds_left set pods - 1) [
      | OrderedReady ↦ λ policy. let exact = falls set pods next sorted policy are (free policy) round in omega (arith, exact)
      | Parallel ↦ λ policy. comes_nearer set pods next sorted policy are round
    ] refl

down : (set : SetParts) (pods last : Pods) (k : ℕ) → AreInOrder pods → AreTended pods → IsFree set pods → AreRounds set k pods last → rounds_left set pods ≤ k → Stands set last
down set pods last zero sorted are free same few =
    let none : rounds_left set pods ≡ 0 = omega (arith, few) in
    let P : Pods → Type 0 = λ x. Stands set x in
    subst P same ((none_left_is_standing set pods sorted are).0 none)
down set pods last (suc k) sorted are free rounds few =
    let round = rounds.1 in
    let less = nearer set pods rounds.0 sorted are free round in
    down set rounds.0 last k round.in_order (next_are_tended set pods rounds.0 round) (λ policy. next_is_unstopped set pods rounds.0 sorted round (free policy)) rounds.2 (omega (arith, less, few))

from_free : (set : SetParts) (pods last : Pods) (k : ℕ) → AreInOrder pods → IsFree set pods → AreRounds set k pods last → most_rounds set pods + 1 ≤ k → Stands set last
from_free set pods last zero sorted free rounds enough = absurd (omega (arith, enough))
from_free set pods last (suc k) sorted free rounds enough =
    let round = rounds.1 in
    let few = few_left set rounds.0 in
    let fewer = next_is_no_more set pods rounds.0 sorted round in
    down set rounds.0 last k round.in_order (next_are_tended set pods rounds.0 round) (λ policy. next_is_unstopped set pods rounds.0 sorted round (free policy)) rounds.2 (omega (arith, few, fewer, enough))

-- either nothing stops a scale-down, or a failed pod stops it for good
unless_stopped : (set : SetParts) (pods last : Pods) → AreInOrder pods → (IsFree set pods → Stands set last) → Stands set last ⊎ ((set.policy ≡ OrderedReady) × IsStopped set pods)
unless_stopped set pods last sorted comes =
    elim (set.policy) as (λ (p : Policy). set.policy ≡ p → Stands set last ⊎ ((set.policy ≡ OrderedReady) × IsStopped set pods)) [
      | OrderedReady ↦ λ policy. elim (stopped_or_not set pods sorted) [
        | inl stopped ↦ inr (policy, stopped)
        | inr free ↦ inl (comes (λ _. free))
      ]
      | Parallel ↦ λ policy. inl (comes (λ other. absurd (cc)))
    ] refl

pub comes_to_stand : (set : SetParts) (pods last : Pods) (k : ℕ) → AreInOrder pods → AreRounds set k pods last → most_rounds set pods + 1 ≤ k → Stands set last ⊎ ((set.policy ≡ OrderedReady) × IsStopped set pods)
comes_to_stand set pods last k sorted rounds enough = unless_stopped set pods last sorted (λ free. from_free set pods last k sorted free rounds enough)

-- from pods as a kubelet's turn leaves them it takes one round less
pub tended_come_to_stand : (set : SetParts) (pods last : Pods) (k : ℕ) → AreInOrder pods → AreTended pods → AreRounds set k pods last → most_rounds set pods ≤ k → Stands set last ⊎ ((set.policy ≡ OrderedReady) × IsStopped set pods)
tended_come_to_stand set pods last k sorted are rounds enough =
    let few = few_left set pods in
    unless_stopped set pods last sorted (λ free. down set pods last k sorted are free rounds (omega (arith, few, enough)))

-- under OrderedReady each round counts
pub exactly : (set : SetParts) (pods last : Pods) (k : ℕ) → AreInOrder pods → set.policy ≡ OrderedReady → AreTended pods → IsUnstopped set pods → AreRounds set k pods last → rounds_left set last ≡ rounds_left set pods - k
exactly set pods last zero sorted policy are free same = let left = ap (rounds_left set) same in omega (arith, left)
exactly set pods last (suc k) sorted policy are free rounds =
    let round = rounds.1 in
    let one = falls set pods rounds.0 sorted policy are free round in
    let later = exactly set rounds.0 last k round.in_order policy (next_are_tended set pods rounds.0 round) (next_is_unstopped set pods rounds.0 sorted round free) rounds.2 in
    omega (arith, one, later)

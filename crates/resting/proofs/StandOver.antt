-- Rounds over a store bring the pods of a set to stand, once the update revision is in place.
use Rattle.std.proofs.Common.{◌≡◌, ◌⊎◌, ℕ, zero, suc, List, unwrap_or, Result, Ok, refl, sym, ap, ◌∙◌, subst}
use Rattle.objects.specs.declared.object.Object.{Object}
use Rattle.set_views.specs.declared.fault.PlanError.{PlanError}
use Rattle.set_views.specs.declared.policies.Policy.TheVariants.{OrderedReady}
use Rattle.set_views.specs.Firsts.{is_held}
use Rattle.set_views.specs.Set.{SetParts}
use Rattle.revisions.specs.Choice.{named_current}
use Rattle.revisions.specs.Plan.{PlanParts, plan_of, settled}
use Rattle.revisions.specs.Revision.{listed}
use Rattle.pod_steps.specs.Listed.{replicas_in}
use Rattle.pod_steps.specs.Replicas.{Pods}
use Rattle.plain_store.specs.Store.{Store}
use Rattle.sets.specs.PlanOfLists.{owned_of}
use Rattle.convergence.specs.Rounds.{AreRounds}
use Rattle.convergence.specs.Standing.{Stands}
use Rattle.convergence.specs.Stopped.{IsStopped}
use Rattle.resting.specs.Acting.{AreWhole, IsReadIn, views_in}
use Rattle.resting.specs.RoundsOver.{AreRoundsOver, IsInPlace, IsRoundOver}
use Rattle.resting.proofs.OwnedAgain.{revisions_in}
use Rattle.resting.proofs.PlainPods.{all_plain}
use Rattle.resting.proofs.RevisionRounds.{stays_in_place}
use Rattle.resting.proofs.RoundsOver.{IsEnough, IsHere, IsPlacedRound, IsSeen, alike_now, here_then, one_round, one_seen, seen_list, seen_plan, same_read, stand_by}

abbrev pub revisions_of : SetParts → ℕ → Store → Result PlanParts PlanError
revisions_of set digits s = plan_of set (is_held (listed set (revisions_in s set))) digits (owned_of set (revisions_in s set))

same_plan : (a b : PlanParts) → ◌≡◌ {A = Result PlanParts PlanError} (Ok a) (Ok b) → a ≡ b
same_plan a b e = cc

module _ (set : SetParts) (current : List ℕ) (digits : ℕ) (chosen : Object) where
  abbrev update : List ℕ
  update = chosen.key.name

  unfoldable pub placed : (s t : Store) → IsInPlace set digits chosen s → (round : IsRoundOver set digits s t) → (r : IsPlacedRound set update digits s t) × (r.plan.update ≡ chosen)
  placed s t here round =
      let r = here round.now round.plan.revisions round.is_read round.key_is round.plan.are in
      let whole : AreWhole round.now s (settled r.0 r.1 chosen) = subst (AreWhole round.now s) r.2 round.plan.whole in (
        record {
          now = round.now;
          key_is = round.key_is;
          is_read = round.is_read;
          plan = record {
            owned = r.0;
            current = r.1;
            update = chosen;
            pods = whole.0;
            in_place = round.plan.are ∙ ap Ok r.2;
            fit = whole.1;
            whole = whole.2;
          };
          update_is = refl;
          moment = round.moment;
          is_time = round.is_time;
          may_act = round.may_act;
          between = round.between;
          ends = round.ends;
          may_turn = round.may_turn;
          left = round.left;
        },
        refl,
      )

  pub in_place_then : (s t : Store) → (r : IsPlacedRound set update digits s t) → r.plan.update ≡ chosen → IsInPlace set digits chosen t
  in_place_then s t r is next parts read key parts_are =
      let owned = owned_of next (revisions_in t next) in
      let stays = stays_in_place set update digits s t r next read key (is_held (listed next (revisions_in t next))) digits parts parts_are in
      (owned, unwrap_or (named_current next owned) r.plan.update, stays ∙ ap (settled owned (unwrap_or (named_current next owned) r.plan.update)) is)

  pub in_place_at : (s : Store) (now : SetParts) → IsReadIn s now → now.object.key ≡ set.object.key → (owned : List Object) (newer : Object) → revisions_of now digits s ≡ Ok (settled owned newer chosen) → IsInPlace set digits chosen s
  in_place_at s now read key_is owned newer is next parts at_next key parts_are =
      let same : now ≡ next = same_read set update update digits s now next read at_next (key ∙ sym key_is) in
      let here : revisions_of now digits s ≡ Ok parts = ap (λ (x : SetParts). revisions_of x digits s) same ∙ parts_are in
      (owned, newer, same_plan parts (settled owned newer chosen) (sym here ∙ is))

  seen_next : (k : ℕ) (s t : Store) (last : Pods) → IsHere set update current digits s → IsInPlace set digits chosen s → IsSeen set update current digits last t → AreRoundsOver set digits k s t → (pods : Pods) × IsSeen set update current digits pods s
  seen_next zero s t last here at at_last same = (last, subst (IsSeen set update current digits last) (sym same) at_last)
  seen_next (suc k) s t last here at at_last rounds =
      let r = (placed s rounds.0 at rounds.1).0 in
      (all_plain r.plan.pods, seen_plan set update current digits s rounds.0 r (alike_now set update current digits s rounds.0 here r))

  rounds_seen : (k : ℕ) (s t : Store) (pods last : Pods) → IsHere set update current digits s → IsInPlace set digits chosen s → IsSeen set update current digits pods s → IsSeen set update current digits last t → AreRoundsOver set digits k s t → AreRounds set k pods last
  rounds_seen zero s t pods last here at at_pods at_last same = one_seen set update current digits t pods last (subst (IsSeen set update current digits pods) same at_pods) at_last
  rounds_seen (suc k) s t pods last here at at_pods at_last rounds =
      let r = placed s rounds.0 at rounds.1 in
      let alike = alike_now set update current digits s rounds.0 here r.0 in
      let here_later = here_then set update current digits s rounds.0 here r.0 in
      let at_later = in_place_then s rounds.0 r.0 r.1 in
      let next = seen_next k rounds.0 t last here_later at_later at_last rounds.2 in
      (next.0, one_round set update current digits s rounds.0 pods next.0 at_pods next.1 r.0 alike, rounds_seen k rounds.0 t next.0 last here_later at_later next.1 at_last rounds.2)

  pub stand_over : (k : ℕ) (s t : Store) (pods last : Pods) → IsHere set update current digits s → IsInPlace set digits chosen s → AreRoundsOver set digits k s t
      → replicas_in set update current (views_in set s) ≡ Ok pods → replicas_in set update current (views_in set t) ≡ Ok last
      → IsEnough set update current digits pods k → Stands set last ⊎ ((set.policy ≡ OrderedReady) × IsStopped set pods)
  stand_over k s t pods last here at rounds first end enough =
      let at_pods = seen_list set update current digits s pods first in
      stand_by set update current digits s t k pods last
      (rounds_seen k s t (all_plain pods) (all_plain last) here at at_pods (seen_list set update current digits t last end) rounds) first enough

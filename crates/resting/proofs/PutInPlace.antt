-- After a round that is not refused the update revision is in place.
use Rattle.std.proofs.Common.{◌≡◌, ◌==◌, ◌+◌, ◌≤◌, ℕ, Bool, true, false, not, if◌then◌else◌, List, [], ◌∷◌, option_map, None, Ok, arith, refl, sym, ap, ◌∙◌}
use Rattle.std.proofs.lemmas.Bool.{eqb-true}
use Rattle.serde_json.specs.Written.{members_have_float}
use Rattle.objects.specs.declared.key.Key.{Key}
use Rattle.objects.specs.declared.object.Object.{Object}
use Rattle.requests.specs.declared.request.Request.{Request}
use Rattle.requests.specs.declared.request.Request.TheVariants.{Create, Update}
use Rattle.set_views.specs.Firsts.{is_held}
use Rattle.set_views.specs.Predicates.{in_range}
use Rattle.set_views.specs.Set.{SetParts}
use Rattle.revisions.specs.Built.{new_revision, with_number}
use Rattle.revisions.specs.Choice.{greatest}
use Rattle.revisions.specs.Plan.{PlanParts, created, renumbered, settled}
use Rattle.revisions.specs.Revision.{listed}
use Rattle.pod_steps.specs.Listed.{replicas_in}
use Rattle.pod_steps.specs.Replicas.{Pods, is_out_of_range}
use Rattle.convergence.specs.Left.{condemned}
use Rattle.convergence.proofs.Counts.{count_most}
use Rattle.convergence.proofs.Kept.{next_is_no_more}
use Rattle.plain_store.specs.AtKey.{Has}
use Rattle.plain_store.specs.Store.{Store}
use Rattle.rounds.specs.Drafts.{draft}
use Rattle.sets.specs.PlanOfLists.{owned_of}
use Rattle.controllers.specs.Planned.{as_read}
use Rattle.resting.specs.Acting.{AreWhole, planned_requests, views_in}
use Rattle.resting.specs.RoundsOver.{CondemnsNoMore, IsAlike, IsInPlace, IsRoundOver}
use Rattle.resting.proofs.NewRevisions.{new_is_written, renewed_is_written, stored, stored_again, writes_created, writes_renumbered, writing}
use Rattle.resting.proofs.OwnedAgain.{IsOwnedIn, owned_there, revisions_in}
use Rattle.resting.proofs.PlainPods.{all_plain, as_many, plain}
use Rattle.resting.proofs.RevisionPlans.{created_from, renumbered_from}
use Rattle.resting.proofs.RoundsOver.{IsHere, IsPlacedRound, alike_now, here_then, one_round, seen_list}
use Rattle.resting.proofs.StandOver.{in_place_at, in_place_then, placed, revisions_of}
use Rattle.resting.proofs.TurnsOnPods.{own_at}
use Rattle.resting.proofs.WrittenRounds.{here_written, none_then, written_in_place}

pub some_uid : (n : ℕ) → 1 ≤ n → n == 0 ≡ false
some_uid n some =
    elim (n == 0) as (λ b. n == 0 ≡ b → b ≡ false) [
      | true ↦ λ h. let none : n ≡ 0 = eqb-true n 0 h in absurd (omega arith)
      | false ↦ λ h. refl
    ] refl

-- ---- pods out of range
module _ (set : SetParts) (update current : List ℕ) (digits : ℕ) (s t : Store) (before later : Pods)
    (first : replicas_in set update current (views_in set s) ≡ Ok before) (last : replicas_in set update current (views_in set t) ≡ Ok later) where
  as_counted : condemned set (all_plain later) ≤ condemned set (all_plain before) → condemned set later ≤ condemned set before
  as_counted few =
      let same = as_many (is_out_of_range set) before (λ e. refl) in
      let same_later = as_many (is_out_of_range set) later (λ e. refl) in
      omega (arith, few, same, same_later)

  no_more_where_none : ((i : ℕ) → option_map plain (own_at set update current s i) ≡ None → option_map plain (own_at set update current t i) ≡ None) → condemned set later ≤ condemned set before
  no_more_where_none none =
      let was = seen_list set update current digits s before first in
      let is = seen_list set update current digits t later last in
      as_counted (count_most (λ i. not (in_range set i)) (all_plain before) (all_plain later) was.in_order is.in_order (λ i out gone. is.are i ∙ none i (sym (was.are i) ∙ gone)))

  no_more_by_round : (r : IsPlacedRound set update digits s t) → IsAlike set r.now → condemned set later ≤ condemned set before
  no_more_by_round r alike =
      let was = seen_list set update current digits s before first in
      let is = seen_list set update current digits t later last in
      as_counted (next_is_no_more set (all_plain before) (all_plain later) was.in_order (one_round set update current digits s t (all_plain before) (all_plain later) was is r alike))

module _ (set : SetParts) (digits : ℕ) (s t : Store) (round : IsRoundOver set digits s t) (whole : members_have_float round.now.template ≡ false) (given : (key : Key) (o : Object) → Has s key o → 1 ≤ o.meta.uid) where
  abbrev now : SetParts
  now = round.now

  abbrev held : List ℕ → Bool
  held = is_held (listed now (revisions_in s now))

  abbrev owned : List Object
  owned = owned_of now (revisions_in s now)

  -- a revision is in place, the set is read again as it was, and no more pods are out of range
  abbrev IsPut : Type 0
  IsPut = (update : Object) × IsInPlace set digits update t × (IsHere set [] [] digits s → IsHere set [] [] digits t) × (IsHere set [] [] digits s → CondemnsNoMore set update.key.name s t)

  by_parts : (parts : PlanParts) → revisions_of now digits s ≡ Ok parts → AreWhole now s parts → IsPut
  by_parts (created o) is fits =
      let new = created_from now held digits owned o is in
      let r : Request = Create (draft (new_revision now new.0 (greatest owned + 1))) in
      let sent : planned_requests now digits round.moment s ≡ r ∷ [] = writes_created now digits round.moment s o fits.0 is fits.1 ∙ ap (λ x. writing x ∷ []) new.1 in
      let writes = new_is_written now s round.may_act whole new.0 new.2 in
      let made : Object = stored now s round.may_act whole new.0 new.2 in (
        made,
        written_in_place set digits s t round r made sent writes,
        here_written set digits s t round r made sent writes,
        λ here current before later first last. no_more_where_none set made.key.name current digits s t before later first last (none_then set digits s t round r made sent writes made.key.name current here),
      )
  by_parts (renumbered o) is fits =
      let old = renumbered_from now held digits owned o is in
      let there : IsOwnedIn s now old.0 = owned_there s now round.may_act.filed old.0 old.1.0 in
      let some : old.0.meta.uid == 0 ≡ false = some_uid old.0.meta.uid (given old.0.key old.0 there.0) in
      let renewed : Object = with_number old.0 (greatest owned + 1) in
      let r : Request = Update (as_read renewed) in
      let sent : planned_requests now digits round.moment s ≡ r ∷ [] =
      writes_renumbered now digits round.moment s o fits.0 is fits.1 ∙ (ap (λ x. writing x ∷ []) old.2 ∙ ap (λ b. (if b then Create (draft renewed) else r) ∷ []) some) in
      let writes = renewed_is_written now s round.may_act whole old.0 old.1.0 old.1.1 some in
      let made : Object = stored_again now s round.may_act whole old.0 old.1.0 old.1.1 some in (
        made,
        written_in_place set digits s t round r made sent writes,
        here_written set digits s t round r made sent writes,
        λ here current before later first last. no_more_where_none set made.key.name current digits s t before later first last (none_then set digits s t round r made sent writes made.key.name current here),
      )
  by_parts (settled all current update) is fits =
      let here : IsInPlace set digits update s = in_place_at set [] digits update s now round.is_read round.key_is all current is in
      let r = placed set [] digits update s t here round in (
        update,
        in_place_then set [] digits update s t r.0 r.1,
        λ before. here_then set update.key.name [] digits s t before r.0,
        λ was current before later first last. no_more_by_round set update.key.name current digits s t before later first last r.0 (alike_now set update.key.name current digits s t was r.0),
      )

  pub put_in_place : IsPut
  put_in_place = by_parts round.plan.revisions round.plan.are round.plan.whole

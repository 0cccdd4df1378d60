-- The requests of any plan that is not refused are accepted, also where it writes a revision.
use Rattle.std.proofs.Common.{◌≡◌, ◌≢◌, ◌==◌, ◌+◌, ◌≤◌, ℕ, Bool, false, if◌then◌else◌, List, [], ◌∷◌, Ok, sym, ap, ◌∙◌, subst}
use Rattle.serde_json.specs.Written.{members_have_float}
use Rattle.objects.specs.declared.key.Key.{Key}
use Rattle.objects.specs.declared.object.Object.{Object}
use Rattle.requests.specs.declared.request.Request.{Request}
use Rattle.requests.specs.declared.request.Request.TheVariants.{Create, Update}
use Rattle.set_views.specs.Firsts.{is_held}
use Rattle.set_views.specs.Set.{SetParts}
use Rattle.revisions.specs.Built.{new_revision, with_number}
use Rattle.revisions.specs.Choice.{greatest}
use Rattle.revisions.specs.Plan.{PlanParts, created, renumbered, settled}
use Rattle.revisions.specs.Revision.{listed}
use Rattle.plain_store.specs.AtKey.{Has}
use Rattle.plain_store.specs.Store.{Store}
use Rattle.rounds.specs.Drafts.{draft}
use Rattle.sets.specs.Plan.{most_actions}
use Rattle.sets.specs.PlanOfLists.{owned_of}
use Rattle.controllers.specs.Planned.{as_read}
use Rattle.resting.specs.Accepting.{AreAccepted}
use Rattle.resting.specs.Acting.{AreWhole, IsPlannedOver, IsReadIn, IsUnrefusedOver, MayAct, planned_requests}
use Rattle.resting.proofs.AcceptedPlans.{all_are_accepted}
use Rattle.resting.proofs.NewRevisions.{new_is_written, renewed_is_written, writes_created, writes_renumbered, writing}
use Rattle.resting.proofs.OwnedAgain.{IsOwnedIn, owned_there, revisions_in}
use Rattle.resting.proofs.PutInPlace.{some_uid}
use Rattle.resting.proofs.RevisionPlans.{created_from, renumbered_from}
use Rattle.resting.proofs.StandOver.{revisions_of}

module _ (set : SetParts) (digits : ℕ) (moment : List ℕ) (s : Store) (some : moment ≢ []) (may : MayAct set most_actions s) (read : IsReadIn s set) (whole : members_have_float set.template ≡ false) (given : (key : Key) (o : Object) → Has s key o → 1 ≤ o.meta.uid) where
  abbrev held : List ℕ → Bool
  held = is_held (listed set (revisions_in s set))

  abbrev owned : List Object
  owned = owned_of set (revisions_in s set)

  by_parts : (parts : PlanParts) → revisions_of set digits s ≡ Ok parts → AreWhole set s parts → AreAccepted s (planned_requests set digits moment s)
  by_parts (created o) is fits =
      let new = created_from set held digits owned o is in
      let r : Request = Create (draft (new_revision set new.0 (greatest owned + 1))) in
      let sent : planned_requests set digits moment s ≡ r ∷ [] = writes_created set digits moment s o fits.0 is fits.1 ∙ ap (λ x. writing x ∷ []) new.1 in
      subst (AreAccepted s) (sym sent) ((new_is_written set s may whole new.0 new.2).accept, tt)
  by_parts (renumbered o) is fits =
      let old = renumbered_from set held digits owned o is in
      let there : IsOwnedIn s set old.0 = owned_there s set may.filed old.0 old.1.0 in
      let has_uid : old.0.meta.uid == 0 ≡ false = some_uid old.0.meta.uid (given old.0.key old.0 there.0) in
      let renewed : Object = with_number old.0 (greatest owned + 1) in
      let r : Request = Update (as_read renewed) in
      let sent : planned_requests set digits moment s ≡ r ∷ [] =
      writes_renumbered set digits moment s o fits.0 is fits.1 ∙ (ap (λ x. writing x ∷ []) old.2 ∙ ap (λ b. (if b then Create (draft renewed) else r) ∷ []) has_uid) in
      subst (AreAccepted s) (sym sent) ((renewed_is_written set s may whole old.0 old.1.0 old.1.1 has_uid).accept, tt)
  by_parts (settled all current update) is fits =
      let plan : IsPlannedOver set digits s = record { owned = all; current = current; update = update; pods = fits.0; in_place = is; fit = fits.1; whole = fits.2 } in
      all_are_accepted set digits moment s plan some may read.there read.read

  pub unrefused_accepted : IsUnrefusedOver set digits s → AreAccepted s (planned_requests set digits moment s)
  unrefused_accepted plan = by_parts plan.revisions plan.are plan.whole

use Rattle.std.proofs.Common.{◌≡◌, true, ◌+◌, sym, ap, ◌∙◌}
use Rattle.std.specs.Prelude.{unwrap_or}
use Rattle.set_views.specs.Set.{set_parts}
use Rattle.revisions.specs.Choice.{greatest, in_place, named_current, to_create}
use Rattle.revisions.specs.Chosen.{chosen}
use Rattle.revisions.specs.Listing.{has_name}
use Rattle.revisions.specs.Plan.{is_sound, objects_of}
use Rattle.revisions.specs.declared.choice.Chosen.{Chosen}
use Rattle.revisions.proofs.Plans.{choice_is, plan_in_place, plan_created}
use Rattle.revisions.proofs.plan.plan_of.Goals as goal

pub returns-in-InPlace : goal.returns-in-InPlace
returns-in-InPlace c =
    let set = set_parts c.args.set.now in
    let owned = objects_of c.args.found.owned.items in
    let sound : is_sound set owned (in_place c.in-InPlace.update.object.now) ≡ true =
    sym (c.is_sound.ensures ∙ ap (λ l. is_sound set (objects_of l) (chosen c.choice_of-choice.result)) c.deref-2.ensures.value ∙ ap (λ (x : Chosen). is_sound set owned (chosen x)) c.in-InPlace.is)
    ∙ c.if-not-is_sound.false in
    let choice = choice_is _ _ _ _ _ c.in_ok-template.ensures c.deref.ensures.value c.in-InPlace.ensures in
    plan_in_place set (λ q. has_name q c.args.found.names.keys) c.args.digits owned c.current_or-current.result.object.now c.in-InPlace.update.object.now sound choice
    (c.current_or-current.ensures ∙ ap (λ l. unwrap_or (named_current set (objects_of l)) c.in-InPlace.update.object.now) c.deref-in-InPlace.ensures.value)

pub returns : goal.returns
returns c =
    let set = set_parts c.args.set.now in
    let owned = objects_of c.args.found.owned.items in
    let sound : is_sound set owned to_create ≡ true =
    sym (c.is_sound.ensures ∙ ap (λ l. is_sound set (objects_of l) (chosen c.choice_of-choice.result)) c.deref-2.ensures.value ∙ ap (λ (x : Chosen). is_sound set owned (chosen x)) c.in-Create.is)
    ∙ c.if-not-is_sound.false in
    let choice = choice_is _ _ _ _ _ c.in_ok-template.ensures c.deref.ensures.value c.in-Create.ensures in
    plan_created set (λ q. has_name q c.args.found.names.keys) c.args.digits _ owned c.in_ok-creation-in-Create.field-0 sound choice
    (ap (λ n. n + 1) (c.greatest-number-in-Create.ensures ∙ ap (λ l. greatest (objects_of l)) c.deref-in-Create.ensures.value)) c.in_ok-creation-in-Create.ensures

use Rattle.std.proofs.Common.{[], ap, ◌∙◌, subst}
use Rattle.std.specs.Prelude.{string_bytes}
use Rattle.serde_json.specs.Written.{compact_text}
use Rattle.set_views.specs.Steps.{Gives, required}
use Rattle.set_views.specs.declared.fault.PlanError.TheVariants.{NoRevisionName}
use Rattle.revisions.specs.Listing.{has_name}
use Rattle.revisions.specs.Name.{first_free, most_tries, revision_name}
use Rattle.revisions.proofs.NewNames.{made_fits}
use Rattle.revisions.proofs.name.new_name.Goals as goal

pub returns-clause-free : goal.returns-clause-free
returns-clause-free c =
    let text = c.as_slice.ensures.value ∙ (c.in_ok-text.ensures ∙ ap compact_text c.requires.template) in
    let held = c.update.ensures [] c.new-hashed.ensures in
    subst (λ t. Gives (λ name. string_bytes name) c.free_name.result (required NoRevisionName (first_free (λ q. has_name q c.args.names.now.keys)
    (revision_name c.args.set.now.object.key.name t c.args.digits) c.args.set.now.collisions most_tries))) text
    (subst (λ s. Gives (λ name. string_bytes name) c.free_name.result (required NoRevisionName (first_free (λ q. has_name q c.args.names.now.keys)
    (revision_name s c.as_slice.result.now c.args.digits) c.args.set.now.collisions most_tries))) c.name_of.ensures.name (c.free_name.ensures.free c.as_slice.result.now held))

pub returns-clause-valid : goal.returns-clause-valid
returns-clause-valid c =
    let held = c.update.ensures [] c.new-hashed.ensures in
    made_fits c.free_name.result c.args.set.now.object.key c.name_of.result.now c.as_slice.result.now c.args.digits c.name_of.ensures.name c.name_of.ensures.valid c.requires.some c.requires.most c.requires.short (c.free_name.ensures.made c.as_slice.result.now held)

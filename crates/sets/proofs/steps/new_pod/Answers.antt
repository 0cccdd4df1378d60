use Rattle.std.proofs.Common.{ap, ◌∙◌}
use Rattle.std.specs.Prelude.{length, nat_le}
use Rattle.objects.specs.Names.{most_label}
use Rattle.set_views.specs.Set.{set_parts}
use Rattle.sets.specs.Actions.{name_at, new_pod}
use Rattle.sets.proofs.Names.{made_pod, only_memory}
use Rattle.sets.proofs.steps.new_pod.Goals as goal

pub want_of_memory-requires : goal.want_of_memory-requires
want_of_memory-requires c =
    let fits = ap (λ s. nat_le (length (name_at (set_parts s) c.args.ordinal)) most_label) c.requires.of_set ∙ c.requires.fits in
    only_memory (set_parts c.args.template.now.set.now) c.args.template.now.revision.now c.args.ordinal c.in-Err.error fits c.in-Err.ensures

pub returns-in-Ok : goal.returns-in-Ok
returns-in-Ok c =
    let fits = ap (λ s. nat_le (length (name_at (set_parts s) c.args.ordinal)) most_label) c.requires.of_set ∙ c.requires.fits in
    made_pod (set_parts c.args.template.now.set.now) c.args.template.now.revision.now c.in-Ok.pod c.args.ordinal fits c.in-Ok.ensures
    ∙ ap (λ s. new_pod (set_parts s) c.args.template.now.revision.now c.args.ordinal) c.requires.of_set

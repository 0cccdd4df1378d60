use Rattle.std.proofs.Common.{not, sym, ap, ◌∙◌}
use Rattle.objects.specs.declared.kind.Kind.TheVariants.{ControllerRevision}
use Rattle.objects.specs.declared.object.Object.{Object}
use Rattle.set_views.specs.Set.{set_parts}
use Rattle.set_views.specs.Predicates.{in_namespace}
use Rattle.set_views.proofs.NameSets.{contains_is, name_taken, was_there, was_new}
use Rattle.revisions.specs.Listing.{has_name}
use Rattle.revisions.specs.Plan.{objects_of}
use Rattle.revisions.specs.Revision.{owns_revision}
use Rattle.revisions.proofs.Firsts.{view_taken, view_left, left_first, left_second}
use Rattle.revisions.proofs.listed.Listed.take.Goals as goal
use Rattle.revisions.proofs.listed.Listed.take.Goals.{else-is_first-via-then-is_first+else-controls, else-is_first-via-else-is_first}

pub returns-in_ok-push-clause-names : goal.returns-in_ok-push-clause-names
returns-in_ok-push-clause-names c = λ q.
    let same = c.read_revision-revision.result.named ∙ ap (λ (o : Object). o.key.name) c.read_revision-revision.ensures in
    name_taken (in_namespace (set_parts c.args.set.now) ControllerRevision c.args.object.now) q c.args.object.now.key.name c.read_revision-revision.result.name c.args.self.now.names.keys c.insert.new.self.keys
    (sym c.has_in_namespace.ensures ∙ c.if-has_in_namespace.true) c.in_ok-is_first.ensures.keys same

pub returns-in_ok-push-clause-owned : goal.returns-in_ok-push-clause-owned
returns-in_ok-push-clause-owned c =
    let same = c.read_revision-revision.result.named ∙ ap (λ (o : Object). o.key.name) c.read_revision-revision.ensures in
    let added = c.in_ok-is_first.ensures.added ∙ ap not (contains_is c.read_revision-revision.result.name c.args.self.now.names.keys) in
    view_taken (in_namespace (set_parts c.args.set.now) ControllerRevision c.args.object.now) (has_name c.args.object.now.key.name c.args.self.now.names.keys) (owns_revision (set_parts c.args.set.now) c.args.object.now)
    c.args.self.now.owned.items c.push.new.self.items c.read_revision-revision.result c.args.object.now
    (sym c.has_in_namespace.ensures ∙ c.if-has_in_namespace.true) (sym (ap (λ s. has_name s c.args.self.now.names.keys) same) ∙ was_new _ _ added c.if-is_first.true)
    (sym c.controls.ensures ∙ c.if-controls.true) c.in_ok-push.ensures.items c.read_revision-revision.ensures

pub returns-else-is_first-clause-names : goal.returns-else-is_first-clause-names
returns-else-is_first-clause-names c = λ q.
    let same = c.read_revision-revision.result.named ∙ ap (λ (o : Object). o.key.name) c.read_revision-revision.ensures in
    name_taken (in_namespace (set_parts c.args.set.now) ControllerRevision c.args.object.now) q c.args.object.now.key.name c.read_revision-revision.result.name c.args.self.now.names.keys c.insert.new.self.keys
    (sym c.has_in_namespace.ensures ∙ c.if-has_in_namespace.true) c.in_ok-is_first.ensures.keys same

pub returns-else-is_first-clause-owned : goal.returns-else-is_first-clause-owned
returns-else-is_first-clause-owned c =
    let same = c.read_revision-revision.result.named ∙ ap (λ (o : Object). o.key.name) c.read_revision-revision.ensures in
    let added = c.in_ok-is_first.ensures.added ∙ ap not (contains_is c.read_revision-revision.result.name c.args.self.now.names.keys) in
    let held = has_name c.args.object.now.key.name c.args.self.now.names.keys in
    let owned = owns_revision (set_parts c.args.set.now) c.args.object.now in
    view_left (in_namespace (set_parts c.args.set.now) ControllerRevision c.args.object.now) held owned (objects_of c.args.self.now.owned.items) c.args.object.now
    (elim c.else-is_first.branch [
      | else-is_first-via-then-is_first+else-controls w ↦ left_second held owned (sym w.controls.ensures ∙ w.if-controls.false)
      | else-is_first-via-else-is_first w ↦ left_first held owned (sym (ap (λ s. has_name s c.args.self.now.names.keys) same) ∙ was_there _ _ added w.if-is_first.false)
    ])

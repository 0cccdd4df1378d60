-- What holds of each revision that a set controls, as it does of those that were listed.
use Rattle.std.proofs.Common.{◌≡◌, true, List}
use Rattle.std.specs.List.{AllByRecursion}
use Rattle.objects.specs.declared.kind.Kind.TheVariants.{ControllerRevision}
use Rattle.objects.specs.declared.object.Object.{Object}
use Rattle.requests.specs.Lists.{Has}
use Rattle.set_views.specs.Firsts.{first_of_each}
use Rattle.set_views.specs.Predicates.{in_namespace}
use Rattle.set_views.specs.Set.{SetParts}
use Rattle.revisions.specs.Revision.{listed, owned_among, owns_revision, revision_cmp}
use Rattle.sets.specs.PlanOfLists.{owned_of}
use Rattle.sets.proofs.Ordered.{all_among, all_in_order}
use Rattle.sets.proofs.Owned.{filtered, first_among, total}

pub of_owned : (P : Object → Type 0) (set : SetParts) (revisions : List Object) → ((o : Object) → Has o revisions → in_namespace set ControllerRevision o ≡ true → P o) → AllByRecursion P (owned_of set revisions)
unfolding owned_of
of_owned P set revisions each =
    all_in_order revision_cmp total P (owned_among set revisions) (all_among P (owned_among set revisions) (λ o h.
    let there = filtered (in_namespace set ControllerRevision) o revisions (first_among (listed set revisions) o (filtered (owns_revision set) o (first_of_each (listed set revisions)) h).0) in
    each o there.0 there.1))

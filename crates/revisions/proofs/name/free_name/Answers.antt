use Rattle.std.proofs.Common.{◌+◌, ◌-◌, Some, sym, ap, ◌∙◌, arith}
use Rattle.set_views.specs.Steps.{required}
use Rattle.set_views.specs.declared.fault.PlanError.TheVariants.{NoRevisionName}
use Rattle.set_views.proofs.NameSets.{contains_is}
use Rattle.revisions.specs.Listing.{has_name}
use Rattle.revisions.specs.Name.{most_tries, revision_name}
use Rattle.revisions.proofs.FreeNames.{free_none, free_found, free_step}
use Rattle.revisions.proofs.name.free_name.Goals as goal

pub returns-then-not-contains-clause-free : goal.returns-then-not-contains-clause-free
returns-then-not-contains-clause-free c text held =
    let made = c.in_ok-name.ensures text held in
    let name = c.as_str.ensures.value ∙ made in
    let free = sym (ap (λ s. has_name s c.args.names.now.keys) name) ∙ (sym (contains_is c.as_str.result c.args.names.now.keys) ∙ (sym c.contains.ensures ∙ c.if-not-contains.true)) in
    ap (required NoRevisionName) (c.loop-count.invariant.0 text held ∙ (free_found (λ q. has_name q c.args.names.now.keys) (revision_name c.args.set.now text c.args.digits) c.loop-count.count
    (c.args.from + most_tries - c.loop-count.count) (c.args.from + most_tries - (c.loop-count.count + 1)) (omega arith) free ∙ ap Some (sym made)))

pub loop-count-preserved : goal.loop-count-preserved
loop-count-preserved c = (
  λ text held.
      let name = c.as_str.ensures.value ∙ c.in_ok-name.ensures text held in
      let taken = sym (ap (λ s. has_name s c.args.names.now.keys) name) ∙ (sym (contains_is c.as_str.result c.args.names.now.keys) ∙ (sym c.contains.ensures ∙ c.if-not-contains.false)) in
      c.loop-count.invariant.0 text held ∙ free_step (λ q. has_name q c.args.names.now.keys) (revision_name c.args.set.now text c.args.digits) c.loop-count.count
      (c.args.from + most_tries - c.loop-count.count) (c.args.from + most_tries - (c.loop-count.count + 1)) (omega arith) taken,
  c.loop-count.invariant.1,
)

pub returns-clause-free : goal.returns-clause-free
returns-clause-free c text held =
    ap (required NoRevisionName) (c.loop-count.invariant.0 text held ∙ free_none (λ q. has_name q c.args.names.now.keys) (revision_name c.args.set.now text c.args.digits) c.loop-count.count
    (c.args.from + most_tries - c.loop-count.count) (omega arith))

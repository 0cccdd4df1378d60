use Rattle.std.proofs.Common.{◌++◌, ◌∷◌, [], ◌∙◌, ap, arith, subst, sym}
use Rattle.history.specs.After.{IsAfter, taken}
use Rattle.cluster_runs.specs.Shown.{HasTaken}
use Rattle.cluster_runs.proofs.cluster.Cluster.forward.Goals as goal

pub step-requires : goal.step-requires
unfolding HasTaken IsAfter taken
step-requires c =
    let many = c.requires.1.0.count in
    let small = c.args.self.now.events.small in
    let fits = c.args.self.now.events.ok in
    omega (arith, many, small, fits.0, fits.1)

pub returns-in-Ok-clause-follows : goal.returns-in-Ok-clause-follows
unfolding HasTaken
returns-in-Ok-clause-follows c = (
  c.requires.0,
  subst (λ l. IsAfter c.requires.0 l c.step.new.self) (sym (c.push_reserved.ensures.items ∙ ap (λ l. l ++ c.args.event ∷ []) c.reserve.ensures.items))
      (c.in-Ok.ensures.done c.requires.0 c.args.self.now.events.items c.requires.1),
)

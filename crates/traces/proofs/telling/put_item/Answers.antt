use Rattle.std.proofs.Common.{None, ap, sym, ◌∙◌}
use Rattle.std.specs.Prelude.{slice_get}
use Rattle.cluster_runs.specs.Ran.{owner_in}
use Rattle.traces.specs.RefusedPlans.{set_of}
use Rattle.traces.specs.Standing.{phases_in}
use Rattle.traces.proofs.Passing.{put_self}
use Rattle.traces.proofs.Told.{nobody, reply_phases}
use Rattle.traces.proofs.telling.put_item.Goals as goal

pub returns-in_default-owner_of-clause-phases : goal.returns-in_default-owner_of-clause-phases
returns-in_default-owner_of-clause-phases c =
    let phases = phases_in c.args.standing.now in
    reply_phases (owner_in c.args.owners.now) c.args.sets.now phases phases c.in-Reply.place c.in-Reply.caller c.in-Reply.reply c.args.item.now None c.in-Reply.is
    (ap (set_of c.args.sets.now) (sym c.owner_of.ensures ∙ nobody c.owner_of.result c.in_default-owner_of.not-Some))
    (put_self phases c.in-Reply.caller)

pub returns-clause-phases : goal.returns-clause-phases
returns-clause-phases c =
    reply_phases (owner_in c.args.owners.now) c.args.sets.now (phases_in c.args.standing.now) (phases_in c.reason_of.new.standing) c.in-Reply.place c.in-Reply.caller c.in-Reply.reply c.args.item.now
    (slice_get c.args.sets.now c.in-Some.controller) c.in-Reply.is (ap (set_of c.args.sets.now) (sym c.owner_of.ensures ∙ c.in-Some.is)) c.in_ok-reason.ensures.phases

pub returns-clause-made : goal.returns-clause-made
returns-clause-made c = c.in_ok-reason.ensures.made (owner_in c.args.owners.now) (sym c.owner_of.ensures ∙ c.in-Some.is) c.requires

use Rattle.std.specs.Prelude.{slice_index_or}
use Rattle.rounds.proofs.Showing.{asked_faults, asked_shows, done_if, failed_if, get_at}
use Rattle.rounds.proofs.whole.ask_number.Goals as goal

pub returns-clause-shows : goal.returns-clause-shows
returns-clause-shows g c =
    done_if c.ask_one.result _ _ _ c.ask_one.ensures.taken c.ask_one.ensures.phase (λ took phase reconcilers w shows.
    asked_shows g.C.ControlLoop.reconciler g.C.ControlLoop.phase reconcilers _ _ c.args.controllers.now _ _ w c.args.number _
    (slice_index_or c.args.controllers.now c.args.number c.index-controllers-number.result) c.ask_one.new.controller c.requires
    (get_at c.args.controllers.now c.args.number c.index-controllers-number.result c.requires)
    c.ask_one.ensures.reconciler took phase shows)

pub returns-clause-fault : goal.returns-clause-fault
returns-clause-fault g c =
    failed_if c.ask_one.result _ _ _ c.ask_one.ensures.fault c.ask_one.ensures.stays (λ told stays reconcilers w shows.
    asked_faults g.C.ControlLoop.reconciler g.C.ControlLoop.phase reconcilers _ _ c.args.controllers.now _ _ w c.args.number _
    (slice_index_or c.args.controllers.now c.args.number c.index-controllers-number.result) c.ask_one.new.controller c.requires
    (get_at c.args.controllers.now c.args.number c.index-controllers-number.result c.requires)
    c.ask_one.ensures.reconciler stays told shows)

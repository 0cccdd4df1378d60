use Rattle.race_log.specs.Judged.{noted_of}
use Rattle.race_log.proofs.Hearing.{has_more, midway_end, midway_next, midway_start}
use Rattle.race_log.proofs.merge.log_of.Goals as goal

pub loop-caller-init : goal.loop-caller-init
loop-caller-init c =
    midway_start c.args.turns.now c.args.queues (noted_of c.new-log.result) c.requires.turns c.requires.exchanges
    c.new-log.ensures.items c.new-log.ensures.open_calls c.new-log.ensures.stamps

pub note_next-requires : goal.note_next-requires
note_next-requires c =
    has_more c.args.turns.now c.args.queues c.loop-caller.caller-index (noted_of c.loop-caller.log) c.loop-caller.left (0, 0) c.loop-caller-test.true c.loop-caller.invariant

pub loop-caller-preserved : goal.loop-caller-preserved
loop-caller-preserved c =
    midway_next c.args.turns.now c.args.queues c.loop-caller.caller-index (noted_of c.loop-caller.log) (noted_of c.note_next.new.self) c.loop-caller.left c.note_next.new.queues (0, 0)
    c.loop-caller-test.true c.loop-caller.invariant c.in_ok-note_next.ensures

pub returns : goal.returns
returns c =
    midway_end c.args.turns.now c.args.queues c.loop-caller.caller-index (noted_of c.loop-caller.log) c.loop-caller.left c.loop-caller-test.false c.loop-caller.invariant

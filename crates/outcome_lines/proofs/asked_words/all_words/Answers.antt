use Rattle.outcome_lines.proofs.Sending.{words_on}
use Rattle.outcome_lines.proofs.asked_words.all_words.Goals as goal

pub loop-one-preserved : goal.loop-one-preserved
loop-one-preserved c =
    words_on c.args.participants.now c.args.sent.now c.loop-one.one-index _ c.loop-one.all.items c.push.new.self.items c.in_ok-words.words c.loop-one-test.true
    c.in_ok-words.ensures c.in_ok-push.ensures.items c.loop-one.invariant

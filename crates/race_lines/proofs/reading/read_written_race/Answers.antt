use Rattle.std.proofs.lemmas.Result.{IfOk-weaker}
use Rattle.plain.specs.Lines.{lines}
use Rattle.race_lines.specs.RaceTexts.{race_parts}
use Rattle.race_lines.proofs.Sound.{callers_each, each_last, lines_each, read_sound}
use Rattle.race_lines.proofs.reading.read_written_race.Goals as goal

pub returns-clause-callers : goal.returns-clause-callers
returns-clause-callers c =
    IfOk-weaker c.read_lines.result _ _ callers_each
    (read_sound c.read_lines.result c.args.text.now c.in-Some.cut.0.now (lines c.in-Some.cut.1.now) (race_parts c.in_ok-opened.opened) c.in-Some.ensures.first c.in_ok-opened.ensures
    c.read_lines.ensures)

pub returns-clause-lines : goal.returns-clause-lines
returns-clause-lines c =
    IfOk-weaker c.read_lines.result _ _ lines_each
    (read_sound c.read_lines.result c.args.text.now c.in-Some.cut.0.now (lines c.in-Some.cut.1.now) (race_parts c.in_ok-opened.opened) c.in-Some.ensures.first c.in_ok-opened.ensures
    c.read_lines.ensures)

pub returns-clause-last : goal.returns-clause-last
returns-clause-last c =
    IfOk-weaker c.read_lines.result _ _ (λ r sound. each_last r.participants.items sound.last)
    (read_sound c.read_lines.result c.args.text.now c.in-Some.cut.0.now (lines c.in-Some.cut.1.now) (race_parts c.in_ok-opened.opened) c.in-Some.ensures.first c.in_ok-opened.ensures
    c.read_lines.ensures)

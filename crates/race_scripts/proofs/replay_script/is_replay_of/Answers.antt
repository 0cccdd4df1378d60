use Rattle.race_lines.specs.Questions.{told_lists}
use Rattle.race_scripts.proofs.Calling.{shows_told}
use Rattle.race_scripts.proofs.replay_script.is_replay_of.Goals as goal

pub returns : goal.returns
returns c = λ is.
    shows_told c.args.asked.now (told_lists c.args.told.now) c.args.text.now c.in_ok-script.script c.args.beginner c.in_ok-found.found _ _ c.in_ok-script.ensures (cc) c.as_slice.ensures.value
    c.as_slice-2.ensures.value c.in_ok-found.ensures.run (c.in_ok-shown.ensures is)

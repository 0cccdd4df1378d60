use Rattle.std.proofs.Common.{ℕ, List, subst}
use Rattle.std.specs.Global.{Vec}
use Rattle.participants.specs.declared.told.Told.{Told}
use Rattle.race_lines.specs.Questions.{told_lists}
use Rattle.race_scripts.specs.Replaying.{ShowsTold}
use Rattle.race_scripts.proofs.script.replay_text.Goals as goal

pub returns-then-branch : goal.returns-then-branch
returns-then-branch c =
    let asked = c.args.asked.now in
    subst (λ (told : List (Vec Told)). ShowsTold asked (told_lists told) c.in_ok-text.text.items) c.as_slice-4.ensures.value
    (subst (λ (text : List ℕ). ShowsTold asked (told_lists c.as_slice-4.result.now) text) c.as_slice-5.ensures.value (c.in_ok-is_replay_of.ensures c.if-branch.true))

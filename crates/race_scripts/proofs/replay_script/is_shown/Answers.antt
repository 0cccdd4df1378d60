use Rattle.std.proofs.Common.{◌∙◌, sym}
use Rattle.std.proofs.lemmas.Result.{IfOk-weaker}
use Rattle.race_lines.specs.Questions.{told_lists}
use Rattle.race_scripts.proofs.Calling.{shown_by}
use Rattle.race_scripts.proofs.replay_script.is_shown.Goals as goal

pub returns : goal.returns
returns c =
    let players = sym c.are_players.ensures ∙ c.if-not-are_players.false in
    let begun = sym c.is_begun.ensures ∙ c.if-not-is_begun.false in
    let shown = shown_by c.args.asked.now (told_lists c.args.told.now) c.args.beginner c.args.items.now _ _ _ c.as_slice-callers.ensures.value c.as_slice.ensures.value c.as_slice-2.ensures.value players begun in
    IfOk-weaker c.have_gone.result _ _ (λ is h. λ yes. shown (h yes)) c.have_gone.ensures

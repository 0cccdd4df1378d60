use Rattle.std.proofs.Common.{◌∙◌, sym}
use Rattle.std.proofs.lemmas.Result.{IfOk-weaker}
use Rattle.race_scripts.proofs.StoreLed.{led_by}
use Rattle.race_scripts.proofs.cluster_script.is_led.Goals as goal

pub returns : goal.returns
returns c =
    let led = led_by c.args.asked.now c.args.end.now c.args.looker c.args.players.now c.args.items.now _ _ _ _ _ c.as_slice.ensures.value c.as_slice-2.ensures.value c.as_slice-3.ensures.value
    c.as_slice-4.ensures.value c.as_slice-5.ensures.value (sym c.is_told_last.ensures ∙ c.if-not-is_told_last.false) in
    IfOk-weaker c.have_gone.result _ _ (λ is h. λ yes. led (h yes)) c.have_gone.ensures

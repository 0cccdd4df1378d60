use Rattle.std.proofs.Common.{sym, ◌∙◌}
use Rattle.std.proofs.lemmas.Result.{IfOk-weaker}
use Rattle.plain_store.proofs.Judged.{judged_reached, judged_step}
use Rattle.plain_store.proofs.Runs.{still_reached}
use Rattle.plain_store.proofs.store.Plain.carry_out.Goals as goal

pub carry-requires : goal.carry-requires
carry-requires c = judged_reached c.args.self.now c.requires.0 c.args.key.now c.args.judged c.requires.1 (still_reached _ c.args.self.now (sym c.self.view_is) c.self.invariant.3)

pub returns-clause-step : goal.returns-clause-step
returns-clause-step c r is = IfOk-weaker c.carry.result _ _ (λ printed carried. carried ∙ judged_step c.args.self.now r c.args.key.now c.args.judged is) c.carry.ensures.step

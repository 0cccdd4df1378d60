use Rattle.std.proofs.Common.{sym}
use Rattle.controllers.specs.Progress.{phase_at}
use Rattle.controllers.specs.Reconciler.{reconciler_with}
use Rattle.controllers.proofs.Heard.{list_ends}
use Rattle.controllers.proofs.round.progress_after_list.Goals as goal

pub returns-in-None : goal.returns-in-None
unfolding phase_at
returns-in-None c = λ set digits moment. sym (list_ends c.args.progress.now (reconciler_with set digits moment) c.args.reply.now c.requires c.in-None.ensures.none)

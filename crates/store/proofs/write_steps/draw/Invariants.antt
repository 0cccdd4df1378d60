use Rattle.std.proofs.Common.{Some}
use Rattle.store.specs.Views.{writing_by}
use Rattle.store.proofs.write_steps.draw.Given as goal

abbrev pub ghosts-draw_as : goal.ghosts-draw_as
ghosts-draw_as g a = record { note = Some (writing_by a.seat.now.view a.request.now.value a.change.now) }

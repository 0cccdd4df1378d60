use Rattle.controllers.proofs.Soundness.{is_sound}
use Rattle.controllers.proofs.laws.reconcilers_are_sound.Goals as goal

pub returns : goal.returns
returns c = is_sound

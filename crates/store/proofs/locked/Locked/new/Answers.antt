use Rattle.store.proofs.Agreeing.{new_agrees}
use Rattle.store.proofs.locked.Locked.new.Goals as goal

pub invariant_of-result : goal.invariant_of-result
invariant_of-result g c = (c.requires.0, c.requires.1, c.requires.2, c.requires.3, new_agrees _ _ _ _ c.new.ensures c.requires.4 c.requires.5)

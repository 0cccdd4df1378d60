use Rattle.trees.proofs.Printing.{number_canonical}
use Rattle.trees.proofs.integer.Integer.write.Goals as goal

pub returns-in-Count-clause-canonical : goal.returns-in-Count-clause-canonical
returns-in-Count-clause-canonical c = number_canonical c.self.inside.number c.args.self.now c.self.view_is c.self.invariant

pub returns-in-Below-clause-canonical : goal.returns-in-Below-clause-canonical
returns-in-Below-clause-canonical c = number_canonical c.self.inside.number c.args.self.now c.self.view_is c.self.invariant

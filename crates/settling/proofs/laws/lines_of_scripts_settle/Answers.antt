use Rattle.settling.proofs.Lines.{script_begins, script_settles}
use Rattle.settling.proofs.laws.lines_of_scripts_settle.Goals as goal

pub returns-clause-lines : goal.returns-clause-lines
returns-clause-lines c = λ z reconcilers namespace before rounds more none low. script_settles z reconcilers namespace before rounds more none low

pub returns-clause-begins : goal.returns-clause-begins
returns-clause-begins c = λ z reconcilers namespace before sized lines begins. script_begins z reconcilers namespace sized.0.0 sized.0.1 before lines begins

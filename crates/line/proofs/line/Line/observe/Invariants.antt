use Rattle.line.proofs.line.Line.observe.Given as goal

abbrev pub ghosts-observe_with : goal.ghosts-observe_with
ghosts-observe_with g a = record { floor = a.floor }

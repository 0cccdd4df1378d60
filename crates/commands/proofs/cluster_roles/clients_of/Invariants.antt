use Rattle.std.proofs.Common.{◌≡◌, drop}
use Rattle.commands.specs.Roles.{clients_from, clients_of}
use Rattle.commands.proofs.cluster_roles.clients_of.Given as goal

-- what is still to be noted comes to what was noted
abbrev pub invariant-loop-turn : goal.invariant-loop-turn
invariant-loop-turn l = clients_from l.clients.keys (drop l.turn-index l.turns) ≡ clients_of l.turns

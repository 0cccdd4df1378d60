use Rattle.std.proofs.Common.{List}
use Rattle.std.specs.List.{AllByRecursion}
use Rattle.participants.specs.Stands.{IsWithin}
use Rattle.requests.specs.declared.reply.Reply.{Reply}
use Rattle.race_scripts.proofs.team.begun.Given as goal

abbrev pub invariant-loop-participant : goal.invariant-loop-participant
invariant-loop-participant l = (table : List Reply) → AllByRecursion (IsWithin table) l.stands.items

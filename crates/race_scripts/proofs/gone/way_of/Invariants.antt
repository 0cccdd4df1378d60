use Rattle.std.proofs.Common.{length}
use Rattle.indexmap.specs.IndexMap.{values}
use Rattle.outcomes.specs.Names.{AreNamed}
use Rattle.outcomes.specs.Outcomes.{exchanges_by}
use Rattle.participants.specs.Machines.{machine_of}
use Rattle.participants.specs.Stands.{IsWithin, Stand, stand_in}
use Rattle.race_runs.specs.Runs.{Goes}
use Rattle.race_scripts.proofs.gone.way_of.Given as goal

abbrev pub invariant-calls : goal.invariant-calls
invariant-calls l = record {
  named : AreNamed l.replies.named.entries;
  within : IsWithin (values l.replies.named) l.stand;
  goes : (to : Stand) → Goes (machine_of l.participant) (stand_in (values l.replies.named) l.stand) (exchanges_by l.caller l.rest) to
      → Goes (machine_of l.participant) (machine_of l.participant).begins (exchanges_by l.caller l.items) to;
}

abbrev pub decreases-calls : goal.decreases-calls
decreases-calls l = length l.rest

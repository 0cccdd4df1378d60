use Rattle.rounds.proofs.Runs.{transcript}
use Rattle.rounds.specs.Before.{entries_before}
use Rattle.rounds.specs.World.{run, start}
use Rattle.std.proofs.Common.{◌++◌}
use Rattle.plain_store.specs.Store.{opening}
use Rattle.rounds.proofs.laws.runs_keep_promises.Goals as goal

pub returns : goal.returns
returns c = λ count reconcilers s reached events sound.
    c.transcripts_keep_promises.ensures reconcilers reached.capacity
    (entries_before (opening reached.capacity) reached.requests ++ (run count reconcilers (start s) events).entries) sound
    (transcript count reconcilers s reached events)

use Rattle.std.proofs.Common.{subst}
use Rattle.race_log.specs.Judged.{noted_of}
use Rattle.racing.specs.Parts.{AreParts}
use Rattle.racing.proofs.judging.run_threads.Goals as goal

-- the parts of the threads, and their log
pub returns-clause-race : goal.returns-clause-race
returns-clause-race g c =
    let parts = c.in_ok-parts.parts.items in
    record {
      parts = parts;
      asked = subst (λ s. AreParts g.S.SharedStore.shards g.S.SharedStore.capacity s parts) c.new-course.ensures c.in_ok-parts.ensures.parts;
      log = noted_of c.in_ok-log.log;
      noted = c.in_ok-log.log.noted;
      merged = c.in_ok-log.ensures.merged;
      judged = c.in_ok-judged.ensures.history;
    }

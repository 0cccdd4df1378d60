use Rattle.interleavings.specs.Trace.{trace}
use Rattle.cluster_runs.specs.Cluster.{run, start}
use Rattle.cluster_runs.proofs.Steps.{run_kept, start_kept}
use Rattle.cluster_runs.proofs.Transcripts.{transcript}
use Rattle.cluster_runs.proofs.laws.clusters_keep_promises.Goals as goal

pub returns : goal.returns
returns c = λ size count reconcilers events order some least most sound legal.
    let k = run size count reconcilers (start count) events in
    let items = trace size k.events in
    let history = (c.runs_are_linearizable.ensures size k.events some).history in
    c.transcripts_keep_promises.ensures reconcilers size.capacity _ sound
    (transcript reconcilers count size.capacity k.phases k.crashes k.callers k.used k.incarnations items
    (run_kept size reconcilers count (start count) (start_kept size reconcilers count) events) history order legal least most)

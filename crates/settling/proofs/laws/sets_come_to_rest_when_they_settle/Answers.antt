use Rattle.cluster_runs.specs.Cluster.{run, start}
use Rattle.settling.proofs.Begun.{now_begun}
use Rattle.settling.proofs.Comes.{comes_from_any, comes_in_place}
use Rattle.settling.proofs.laws.sets_come_to_rest_when_they_settle.Goals as goal

pub returns-clause-in_place : goal.returns-clause-in_place
returns-clause-in_place c = λ z reconcilers events set update digits n m moment current pods last sized is_of timed is read at may shown end enough.
    comes_in_place set digits moment timed z reconcilers sized.0.0 sized.0.1 sized.1 n is_of (run z 1 reconcilers (start 1) events) update m current pods last
    (now_begun set digits moment timed z reconcilers sized.0.0 sized.0.1 sized.1 n is_of events is) read at may shown end enough

pub returns-clause-from_any : goal.returns-clause-from_any
returns-clause-from_any c = λ z reconcilers events set digits n m moment sized is_of timed is read may.
    comes_from_any set digits moment timed z reconcilers sized.0.0 sized.0.1 sized.1 n is_of (run z 1 reconcilers (start 1) events) m
    (now_begun set digits moment timed z reconcilers sized.0.0 sized.0.1 sized.1 n is_of events is) read may

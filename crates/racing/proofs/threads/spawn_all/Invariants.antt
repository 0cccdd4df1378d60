use Rattle.std.proofs.Common.{◌≡◌, ◌++◌, map}
use Rattle.std.specs.List.{All}
use Rattle.std.specs.Vec.Iter.{into_iter_items}
use Rattle.racing.specs.Children.{Promises, promised_number}
use Rattle.racing.specs.Jobs.{IsJob, number_of}
use Rattle.racing.proofs.threads.spawn_all.Given as goal

-- the jobs that are left, and the threads so far
abbrev pub invariant-loop-job : goal.invariant-loop-job
invariant-loop-job g l = record {
  jobs : All (IsJob l.fn.course.spec) (into_iter_items l.job-iterator);
  spec : All (Promises l.fn.course.spec) l.children.items;
  numbers : map promised_number l.children.items ++ map number_of (into_iter_items l.job-iterator) ≡ map number_of l.fn.jobs.items;
}

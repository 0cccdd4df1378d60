use Rattle.std.proofs.Common.{◌≡◌, length, map}
use Rattle.std.specs.List.{All}
use Rattle.racing.specs.Parts.{CountFrom}
use Rattle.racing.specs.Jobs.{IsJob, number_of}
use Rattle.racing.proofs.jobs.racers_of.Given as goal

abbrev pub invariant-loop-number : goal.invariant-loop-number
invariant-loop-number g l = record {
  jobs : All (IsJob l.fn.course.spec) l.jobs.items;
  numbers : CountFrom 0 (map number_of l.jobs.items);
  many : length l.jobs.items ≡ l.number;
}

use Rattle.std.proofs.Common.{subst, sym}
use Rattle.rounds.specs.Promises.{NamesAreFreed}
use Rattle.rounds.specs.Transcript.{requests_of}
use Rattle.rounds.proofs.laws.transcripts_keep_promises.Goals as goal

pub returns : goal.returns
returns c = λ reconcilers capacity entries sound is. record {
  names = subst NamesAreFreed (sym is.run) (c.names_are_freed.ensures capacity (requests_of entries));
  deletes = c.plans_take_what_they_read.ensures reconcilers capacity entries sound is;
  creates = c.creates_are_planned.ensures reconcilers capacity entries sound is;
  own_deletes = c.deletes_are_planned_or_collected.ensures reconcilers capacity entries sound is;
  owners = c.owners_are_gone.ensures reconcilers capacity entries sound is;
}

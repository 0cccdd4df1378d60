use Rattle.std.proofs.Common.{[]}
use Rattle.resting.proofs.PutInPlace.{put_in_place}
use Rattle.resting.proofs.StandOver.{in_place_then, placed}
use Rattle.resting.proofs.laws.update_revisions_are_put_in_place.Goals as goal

pub returns-clause-put : goal.returns-clause-put
returns-clause-put c = λ set digits s t round whole given. let p = put_in_place set digits s t round whole given in (p.0, p.1)

pub returns-clause-kept : goal.returns-clause-kept
returns-clause-kept c = λ set update digits s t here round. let r = placed set [] digits update s t here round in in_place_then set [] digits update s t r.0 r.1

use Rattle.std.proofs.Common.{inl, inr}
use Rattle.resting.proofs.PutInPlace.{put_in_place}
use Rattle.resting.proofs.RestRounds.{seen_tended, tended_then}
use Rattle.resting.proofs.RoundsOver.{alike_as_is}
use Rattle.resting.proofs.StandOver.{stand_over}
use Rattle.resting.proofs.laws.sets_come_to_stand_in_stores.Goals as goal

pub returns-clause-in_place : goal.returns-clause-in_place
returns-clause-in_place c = λ set update digits k s t current pods last read at rounds shown end enough. stand_over set current digits update k s t pods last (set, read, alike_as_is set) at rounds shown end (inl enough)

pub returns-clause-from_any : goal.returns-clause-from_any
returns-clause-from_any c = λ set digits k r s t first read whole given rounds.
    let p = put_in_place set digits r s first whole given in
    (p.0, p.1, p.3 (set, read, alike_as_is set), λ current pods last shown end enough. stand_over set current digits p.0 k s t pods last (p.2 (set, read, alike_as_is set)) p.1 rounds shown end (inr (seen_tended set p.0.key.name current s pods (tended_then set digits r s first) shown, enough)))

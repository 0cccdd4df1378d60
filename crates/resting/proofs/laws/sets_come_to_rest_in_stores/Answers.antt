use Rattle.std.proofs.Common.{arith, inl, inr}
use Rattle.resting.proofs.PutInPlace.{put_in_place}
use Rattle.resting.proofs.RestRounds.{come_to_rest, seen_tended, tended_by, tended_last, tended_then}
use Rattle.resting.proofs.RoundsOver.{alike_as_is}
use Rattle.resting.proofs.laws.sets_come_to_rest_in_stores.Goals as goal

pub returns-clause-in_place : goal.returns-clause-in_place
returns-clause-in_place c = λ set update digits k s t u current pods last read at rounds shown end enough.
    come_to_rest set current digits update k s t u pods last (set, read, alike_as_is set) at rounds shown end (inl enough) (tended_by set digits k s t (omega (arith, enough)) rounds)

pub returns-clause-from_any : goal.returns-clause-from_any
returns-clause-from_any c = λ set digits k r s t u first read fine given rounds.
    let p = put_in_place set digits r s first fine given in
    (p.0, p.1, p.3 (set, read, alike_as_is set), λ current pods last shown end enough. come_to_rest set current digits p.0 k s t u pods last (p.2 (set, read, alike_as_is set)) p.1 rounds shown end (inr (seen_tended set p.0.key.name current s pods (tended_then set digits r s first) shown, enough)) (tended_last set digits k r t (s, first, rounds)))

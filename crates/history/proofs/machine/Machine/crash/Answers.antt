use Rattle.std.proofs.Common.{refl, ap}
use Rattle.history.proofs.CrashesDone.{crash_done, crash_held}
use Rattle.history.proofs.Pieces.{map_none, map_some, seat_of}
use Rattle.history.proofs.machine.Machine.crash.Goals as goal

pub returns-in-Some-clause-done : goal.returns-in-Some-clause-done
returns-in-Some-clause-done c =
    let m = c.args.self.now in
    let h = map_some _ _ _ c.in-Some.ensures.value in
    crash_held m _ c.args.caller c.in-Some.shard h.0 h.1.0 (ap (λ p. p.1) h.1.1) (seat_of m c.in-Some.shard c.requires.stands c.in-Some.ensures.below) refl c.crash.ensures refl

pub returns-clause-done : goal.returns-clause-done
returns-clause-done c = crash_done c.args.self.now _ c.args.caller (map_none _ _ c.in_default.ensures.value) c.crash-2.ensures refl

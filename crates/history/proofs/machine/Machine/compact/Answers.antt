use Rattle.std.proofs.Common.{refl, sym}
use Rattle.history.proofs.Pieces.{on_ok_by}
use Rattle.history.proofs.ReadsDone.{compact_done, compact_nothing, compact_other, compact_refused}
use Rattle.history.proofs.machine.Machine.compact.Goals as goal

pub returns-in_default-clause-done : goal.returns-in_default-clause-done
returns-in_default-clause-done c = compact_nothing c.args.self.now c.args.caller (sym c.in_default.ensures)

pub returns-in_default-floor_of-clause-done : goal.returns-in_default-floor_of-clause-done
returns-in_default-floor_of-clause-done c = compact_other c.args.self.now c.args.caller c.in-Some.place c.in-Some.request.now (sym c.in-Some.ensures) (sym c.in_default-floor_of.ensures)

pub returns-in-Some-denied-clause-done : goal.returns-in-Some-denied-clause-done
returns-in-Some-denied-clause-done c =
    on_ok_by _ _ c.wait.result (λ waits. compact_refused c.args.self.now c.args.caller c.in-Some.place c.in-Some.request.now (sym c.in-Some.ensures) _ c.in-Some-floor_of.to c.in-Some-denied.reason c.in-Some-floor_of.ensures c.in-Some-denied.ensures waits) c.wait.ensures.waits

pub returns-clause-done : goal.returns-clause-done
returns-clause-done c =
    compact_done c.args.self.now c.args.caller c.in-Some.place c.in-Some.request.now (sym c.in-Some.ensures) c.wait-2.new.self _ c.in-Some-floor_of.to c.in-Some-floor_of.ensures c.in_default-denied.ensures c.in_ok-wait.ensures.waits refl refl

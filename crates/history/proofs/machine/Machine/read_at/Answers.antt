use Rattle.std.proofs.Common.{◌≡◌, length, sym, subst, arith}
use Rattle.history.specs.Replayed.{Begins}
use Rattle.history.proofs.Pieces.{kept_at, on_ok_by}
use Rattle.history.proofs.ReadsDone.{read_at_done, read_at_nothing, read_at_other, read_at_refused}
use Rattle.history.proofs.machine.Machine.read_at.Goals as goal

pub returns-in_default-clause-done : goal.returns-in_default-clause-done
returns-in_default-clause-done c = read_at_nothing c.args.self.now c.args.caller (sym c.in_default.ensures)

pub returns-in_default-exact_of-clause-done : goal.returns-in_default-exact_of-clause-done
returns-in_default-exact_of-clause-done c = read_at_other c.args.self.now c.args.caller c.in-Some.place c.in-Some.request.now (sym c.in-Some.ensures) (sym c.in_default-exact_of.ensures)

pub returns-in-Some-denied-clause-done : goal.returns-in-Some-denied-clause-done
returns-in-Some-denied-clause-done c =
    on_ok_by _ _ c.wait.result (λ waits. read_at_refused c.args.self.now c.args.caller c.in-Some.place c.in-Some.request.now (sym c.in-Some.ensures) _ c.in-Some-exact_of.exact c.in-Some-denied.reason c.in-Some-exact_of.ensures c.in-Some-denied.ensures waits) c.wait.ensures.waits

pub begin-requires-clause-kept : goal.begin-requires-clause-kept
begin-requires-clause-kept c = kept_at c.args.self.now c.in-Some-exact_of.exact c.requires (sym c.in-None.ensures)

pub returns-in-None-clause-done : goal.returns-in-None-clause-done
returns-in-None-clause-done c =
    let m = c.args.self.now in
    let count : c.len-shards.result ≡ length m.shards.items = omega (arith, m.shards.ok) in
    on_ok_by _ _ c.begin.result (λ begun. read_at_done m c.args.caller c.in-Some.place c.in-Some.request.now (sym c.in-Some.ensures) _ c.in-Some-exact_of.exact c.in-Some-exact_of.ensures c.in-None.ensures
    (subst (λ n. Begins c.args.caller c.in-Some.place c.in-Some-exact_of.exact n m c.begin.new.self) count begun)) c.begin.ensures.begun

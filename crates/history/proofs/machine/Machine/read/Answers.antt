use Rattle.std.proofs.Common.{◌≡◌, length, Some, sym, subst, arith}
use Rattle.plain_store.specs.Route.{route}
use Rattle.history.specs.Replayed.{parts_in}
use Rattle.history.proofs.Pieces.{kept_now, on_ok_by}
use Rattle.history.proofs.ReadsDone.{read_done, read_nothing, read_other}
use Rattle.history.proofs.machine.Machine.read.Goals as goal

pub returns-in_default-clause-done : goal.returns-in_default-clause-done
returns-in_default-clause-done c = read_nothing c.args.self.now c.args.caller (sym c.in_default.ensures)

pub returns-in_default-parts_of-clause-done : goal.returns-in_default-parts_of-clause-done
returns-in_default-parts_of-clause-done c = read_other c.args.self.now c.args.caller c.in-Some.place c.in-Some.request.now (sym c.in-Some.ensures) _ (sym c.in_default-parts_of.ensures)

pub begin-requires-clause-kept : goal.begin-requires-clause-kept
begin-requires-clause-kept c = kept_now c.args.self.now c.requires

pub returns-clause-done : goal.returns-clause-done
returns-clause-done c =
    let m = c.args.self.now in
    let count : c.len.result ≡ length m.shards.items = omega (arith, m.shards.ok) in
    let parts = subst (λ n. Some c.in-Some-parts_of.left ≡ parts_in n (route c.in-Some.request.now)) count c.in-Some-parts_of.ensures in
    on_ok_by _ _ c.begin.result (λ begun. read_done m c.args.caller c.in-Some.place c.in-Some.request.now (sym c.in-Some.ensures) _ c.in-Some-parts_of.left parts begun) c.begin.ensures.begun

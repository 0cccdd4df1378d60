use Rattle.std.proofs.Common.{◌≡◌, ◌∙◌, true, sym, refl, rules}
use Rattle.std.specs.BTreeMap.{get}
use Rattle.std.specs.Ordering.{nat_cmp}
use Rattle.std.specs.Result.{is_err}
use Rattle.race_log.specs.Logged.{Noted}
use Rattle.race_log.proofs.Noting.{call_merely, err_holds, same_merely, unchanged_get}
use Rattle.race_log.proofs.log.Log.call.Goals as goal

pub invariant_of-self-then-is_err-2 : goal.invariant_of-self-then-is_err-2
invariant_of-self-then-is_err-2 c =
    let n : Noted = record { items = c.args.self.now.items.items; open_calls = get nat_cmp c.args.self.now.open_calls; stamps = c.args.self.now.stamps.items } in
    let failed : is_err c.insert.result ≡ true = sym c.is_err-else-is_err.ensures.value ∙ c.if-is_err-2.true in
    record {
      noted = same_merely n _ c.args.self.now.noted c.reserve.ensures.items (unchanged_get c.args.self.now.open_calls c.insert.new.self (err_holds c.insert.result _ failed c.insert.ensures.err)) refl;
    }

pub invariant_of-self-2 : goal.invariant_of-self-2
invariant_of-self-2 c =
    let n : Noted = record { items = c.args.self.now.items.items; open_calls = get nat_cmp c.args.self.now.open_calls; stamps = c.args.self.now.stamps.items } in
    record { noted = call_merely n _ c.args.caller c.args.request c.args.self.now.noted (search rules) (search rules) refl }

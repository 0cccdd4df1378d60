use Rattle.std.proofs.Common.{◌+◌, ◌≤◌, ◌∙◌, ap, length, subst, sym, arith}
use Rattle.std.proofs.lemmas.List.{length-set, length-take}
use Rattle.compact.proofs.Lengths.{within_inserted}
use Rattle.compact.proofs.Lists.{inserted}
use Rattle.compact.proofs.table.Table.insert.Goals as goal

pub returns : goal.returns
returns c front back is here =
    inserted c.self.inside.entries c.copy_within.new.self front back c.args.index c.self.inside.count c.args.entry
    (let room : c.self.inside.count + 1 ≤ length c.self.inside.entries = omega (arith, c.requires.few, ap length c.self.view_is, length-take c.self.inside.count c.self.inside.entries, c.self.invariant) in room)
    (c.self.view_is ∙ is) here c.copy_within.ensures.after

pub invariant_of-self : goal.invariant_of-self
invariant_of-self c =
    let room : c.self.inside.count + 1 ≤ length c.self.inside.entries = omega (arith, c.requires.few, ap length c.self.view_is, length-take c.self.inside.count c.self.inside.entries, c.self.invariant) in
    let below = subst (λ n. c.args.index ≤ n) (sym (ap length c.self.view_is)) c.requires.below in
    let within = within_inserted c.self.inside.entries c.copy_within.new.self c.args.index c.self.inside.count c.self.inside.shortest c.self.inside.longest _ _ c.args.entry room below c.copy_within.ensures.after c.min-self-inside.ensures c.max-self-inside.ensures c.self.invariant.2 in
    (omega (arith, room, c.self.invariant.1), omega (arith, c.copy_within.ensures.len, c.self.invariant.1, length-set c.copy_within.new.self c.args.index c.args.entry), within)

use Rattle.std.proofs.Common.{sym, ap, ◌∙◌, arith}
use Rattle.plain_store.specs.Store.{Store, denied}
use Rattle.plain_store.proofs.Denials.{denied_above, denied_below, not_denied}
use Rattle.plain_store.proofs.tree_store.Trees.denied.Goals as goal

pub returns-then-self-number : goal.returns-then-self-number
returns-then-self-number c =
    sym (denied_above c.self.inside.versions.floor c.self.inside.counter c.args.number c.if-self-number.true) ∙ ap (λ (s : Store). denied s.floor s.counter c.args.number) c.self.view_is

pub returns-then-number-floor : goal.returns-then-number-floor
returns-then-number-floor c =
    let floor = c.floor.ensures in
    let below = c.if-number-floor.true in
    sym (denied_below c.self.inside.versions.floor c.self.inside.counter c.args.number c.if-self-number.false (omega (arith, floor, below)))
    ∙ ap (λ (s : Store). denied s.floor s.counter c.args.number) c.self.view_is

pub returns-else-number-floor : goal.returns-else-number-floor
returns-else-number-floor c =
    let floor = c.floor.ensures in
    let from = c.if-number-floor.false in
    sym (not_denied c.self.inside.versions.floor c.self.inside.counter c.args.number (omega (arith, floor, from)) c.if-self-number.false)
    ∙ ap (λ (s : Store). denied s.floor s.counter c.args.number) c.self.view_is

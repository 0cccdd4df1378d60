use Rattle.std.proofs.Common.{◌≡◌, ◌<◌, ◌≤◌, Some, cond, bytes_eq, length, ap, subst, ◌∙◌, rules}
use Rattle.version_map.specs.Named.{at_name}
use Rattle.version_map.proofs.Apart.{apart_long, apart_short, changed_at, changed_long, changed_short}
use Rattle.version_map.proofs.names.Names.insert.Goals as goal

pub invariant_of-self : goal.invariant_of-self
invariant_of-self c =
    let n = c.args.name.now in
    let few : length n ≤ 15 = subst (λ t. length t ≤ 15) c.as_str.ensures c.in-Some.ensures.short.1 in
    let now = changed_at c.in-Some.short n c.self.inside.short c.insert.new.self (Some c.args.slot) (c.in-Some.ensures.short.0 ∙ c.as_str.ensures) c.in_ok-insert-in-Some.ensures.updates in
    apart_short c.self.inside.short c.self.inside.long c.self.invariant n c.insert.new.self (Some c.args.slot) few now

pub invariant_of-self-in_ok-insert-in-None : goal.invariant_of-self-in_ok-insert-in-None
invariant_of-self-in_ok-insert-in-None c =
    let n = c.args.name.now in
    let many : 15 < length n = subst (λ t. 15 < length t) c.as_str.ensures c.in-None.ensures.long in
    let same : c.in_ok-clone-in-None.field-0 ≡ n = search rules in
    let now = changed_at c.in_ok-clone-in-None.field-0 n c.self.inside.long c.insert-in-None.new.self (Some c.args.slot) same c.in_ok-insert-in-None.ensures.updates in
    apart_long c.self.inside.short c.self.inside.long c.self.invariant n c.insert-in-None.new.self (Some c.args.slot) many now

pub returns-in_ok-insert-in-Some-clause-ok : goal.returns-in_ok-insert-in-Some-clause-ok
returns-in_ok-insert-in-Some-clause-ok c =
    let n = c.args.name.now in
    let few : length n ≤ 15 = subst (λ t. length t ≤ 15) c.as_str.ensures c.in-Some.ensures.short.1 in
    let now = changed_at c.in-Some.short n c.self.inside.short c.insert.new.self (Some c.args.slot) (c.in-Some.ensures.short.0 ∙ c.as_str.ensures) c.in_ok-insert-in-Some.ensures.updates in
    λ word. changed_short c.self.inside.short c.self.inside.long c.self.invariant n c.insert.new.self (Some c.args.slot) few now word
    ∙ ap (λ names. cond (bytes_eq n word) (Some c.args.slot) (at_name names word)) c.self.view_is

pub returns-in_ok-insert-in-None-clause-ok : goal.returns-in_ok-insert-in-None-clause-ok
returns-in_ok-insert-in-None-clause-ok c =
    let n = c.args.name.now in
    let many : 15 < length n = subst (λ t. 15 < length t) c.as_str.ensures c.in-None.ensures.long in
    let same : c.in_ok-clone-in-None.field-0 ≡ n = search rules in
    let now = changed_at c.in_ok-clone-in-None.field-0 n c.self.inside.long c.insert-in-None.new.self (Some c.args.slot) same c.in_ok-insert-in-None.ensures.updates in
    λ word. changed_long c.self.inside.short c.self.inside.long c.self.invariant n c.insert-in-None.new.self (Some c.args.slot) many now word
    ∙ ap (λ names. cond (bytes_eq n word) (Some c.args.slot) (at_name names word)) c.self.view_is

use Rattle.std.proofs.Common.{◌≡◌, Some, None, cond, bytes_eq, rules, ap, ◌∙◌}
use Rattle.version_map.specs.Named.{at_name, at_text}
use Rattle.version_map.proofs.Named.{updates_text}
use Rattle.version_map.proofs.NewNames.{as_before, one_more}
use Rattle.version_map.proofs.Steps.{on_err}
use Rattle.version_map.proofs.key_slots.insert_name.Goals as goal

pub returns-in_err-insert-in-Some-clause-err : goal.returns-in_err-insert-in-Some-clause-err
returns-in_err-insert-in-Some-clause-err c =
    let names = c.insert.new.self in
    let spaces = c.get_mut.follows.lender names in
    on_err c.from_residual.result (as_before c.args.namespaces.now spaces c.args.namespace.now (Some names) (Some c.in-Some.names.now) c.in-Some.ensures.value
    (updates_text c.args.namespace.now c.args.namespaces.now spaces (Some names) ((c.get_mut.follows.holds names).3 (search rules)))
    (λ word. ap (λ ns. at_name ns word) c.in_err-insert-in-Some.ensures.err))

pub returns-in_ok-insert-in-Some-clause-ok : goal.returns-in_ok-insert-in-Some-clause-ok
returns-in_ok-insert-in-Some-clause-ok c =
    let names = c.insert.new.self in
    let spaces = c.get_mut.follows.lender names in
    one_more c.args.namespaces.now spaces c.args.namespace.now (Some names) (Some c.in-Some.names.now) c.in-Some.ensures.value
    (updates_text c.args.namespace.now c.args.namespaces.now spaces (Some names) ((c.get_mut.follows.holds names).3 (search rules))) c.args.name.now (Some c.args.slot)
    c.in_ok-insert-in-Some.ensures.ok

pub returns-in_ok-insert-in-None-2-clause-ok : goal.returns-in_ok-insert-in-None-2-clause-ok
returns-in_ok-insert-in-None-2-clause-ok c =
    let spaced : c.in_ok-clone-in-None.field-0 ≡ c.args.namespace.now = search rules in
    let names = c.insert-in-None.new.self in
    let spaces = c.insert-in-None-2.new.self in
    one_more c.args.namespaces.now spaces c.args.namespace.now (Some names) None c.in-None.ensures.value
    (λ q. updates_text c.in_ok-clone-in-None.field-0 c.get_mut.follows.lender-at-none spaces (Some names) c.in_ok-insert-in-None-2.ensures.updates q
    ∙ ap (λ b. cond (bytes_eq b q) (Some names) (at_text c.get_mut.follows.lender-at-none q)) spaced
    ∙ ap (λ m. cond (bytes_eq c.args.namespace.now q) (Some names) (at_text m q)) c.get_mut.follows.holds-at-none)
    c.args.name.now (Some c.args.slot)
    (λ word. c.in_ok-insert-in-None.ensures.ok word
    ∙ ap (λ ns. cond (bytes_eq c.args.name.now word) (Some c.args.slot) (at_name ns word)) c.new-names.ensures)

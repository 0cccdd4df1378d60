use Rattle.std.proofs.Common.{Some, None, rules, sym, ◌∙◌}
use Rattle.version_map.proofs.Named.{updates_text}
use Rattle.version_map.proofs.NewNames.{no_names, one_more, taken_away}
use Rattle.version_map.proofs.key_slots.remove_name.Goals as goal

pub returns-then-is_empty : goal.returns-then-is_empty
returns-then-is_empty c =
    let names = c.remove.new.self in
    let spaces = c.get_mut.follows.lender names in
    let gone = c.remove-then-is_empty.new.self in
    one_more c.args.namespaces.now gone c.args.namespace.now None (Some c.in-Some.names.now) c.in-Some.ensures.value
    (taken_away c.args.namespaces.now spaces gone c.args.namespace.now names
    (updates_text c.args.namespace.now c.args.namespaces.now spaces (Some names) ((c.get_mut.follows.holds names).3 (search rules)))
    (updates_text c.args.namespace.now spaces gone None c.remove-then-is_empty.ensures.updates))
    c.args.name.now None (λ word. no_names names (sym c.is_empty.ensures ∙ c.if-is_empty.true) word ∙ c.remove.ensures word)

pub returns-else-is_empty : goal.returns-else-is_empty
returns-else-is_empty c =
    let names = c.remove.new.self in
    let spaces = c.get_mut.follows.lender names in
    one_more c.args.namespaces.now spaces c.args.namespace.now (Some names) (Some c.in-Some.names.now) c.in-Some.ensures.value
    (updates_text c.args.namespace.now c.args.namespaces.now spaces (Some names) ((c.get_mut.follows.holds names).3 (search rules))) c.args.name.now None
    c.remove.ensures

use Rattle.std.proofs.Common.{◌<◌, ◌≤◌, length, ap, subst, ◌∙◌}
use Rattle.version_map.specs.Named.{at_name, at_text}
use Rattle.version_map.proofs.Apart.{at_long, at_short}
use Rattle.version_map.proofs.names.Names.get.Goals as goal

pub returns-in-Some : goal.returns-in-Some
returns-in-Some c =
    let n = c.args.name.now in
    let few : length n ≤ 15 = subst (λ t. length t ≤ 15) c.as_str.ensures c.in-Some.ensures.short.1 in
    c.copied.ensures ∙ c.get.ensures.value ∙ ap (at_text c.self.inside.short) (c.in-Some.ensures.short.0 ∙ c.as_str.ensures)
    ∙ at_short c.self.inside.short c.self.inside.long c.self.invariant n few ∙ ap (λ names. at_name names n) c.self.view_is

pub returns-in-None : goal.returns-in-None
returns-in-None c =
    let n = c.args.name.now in
    let many : 15 < length n = subst (λ t. 15 < length t) c.as_str.ensures c.in-None.ensures.long in
    c.copied-in-None.ensures ∙ c.get-in-None.ensures.value
    ∙ at_long c.self.inside.short c.self.inside.long c.self.invariant n many ∙ ap (λ names. at_name names n) c.self.view_is

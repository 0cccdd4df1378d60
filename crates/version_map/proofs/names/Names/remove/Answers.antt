use Rattle.std.proofs.Common.{◌<◌, ◌≤◌, None, cond, bytes_eq, length, refl, ap, subst, ◌∙◌}
use Rattle.version_map.specs.Named.{at_name}
use Rattle.version_map.proofs.Apart.{changed_at, changed_long, changed_short}
use Rattle.version_map.proofs.names.Names.remove.Goals as goal

pub returns-in-Some : goal.returns-in-Some
returns-in-Some c =
    let n = c.args.name.now in
    let few : length n ≤ 15 = subst (λ t. length t ≤ 15) c.as_str.ensures c.in-Some.ensures.short.1 in
    let now = changed_at c.in-Some.short n c.self.inside.short c.remove.new.self None (c.in-Some.ensures.short.0 ∙ c.as_str.ensures) c.remove.ensures.updates in
    λ word. changed_short c.self.inside.short c.self.inside.long c.self.invariant n c.remove.new.self None few now word
    ∙ ap (λ names. cond (bytes_eq n word) None (at_name names word)) c.self.view_is

pub returns-in-None : goal.returns-in-None
returns-in-None c =
    let n = c.args.name.now in
    let many : 15 < length n = subst (λ t. 15 < length t) c.as_str.ensures c.in-None.ensures.long in
    let now = changed_at n n c.self.inside.long c.remove-in-None.new.self None refl c.remove-in-None.ensures.updates in
    λ word. changed_long c.self.inside.short c.self.inside.long c.self.invariant n c.remove-in-None.new.self None many now word
    ∙ ap (λ names. cond (bytes_eq n word) None (at_name names word)) c.self.view_is

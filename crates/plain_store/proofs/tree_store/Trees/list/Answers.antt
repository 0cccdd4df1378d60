use Rattle.std.proofs.Common.{◌≡◌, ap, rules, sym, ◌∙◌}
use Rattle.requests.specs.declared.reply.Reply.TheVariants.{Listed}
use Rattle.requests.specs.declared.reply.Reply.{Reply}
use Rattle.plain_store.specs.Store.{collection, listed_at, map_at}
use Rattle.plain_store.proofs.Denials.{readable}
use Rattle.plain_store.proofs.Steps.{list_at_step, list_step}
use Rattle.plain_store.proofs.tree_store.Trees.list.Goals as goal

pub returns-then-exact-eq0 : goal.returns-then-exact-eq0
returns-then-exact-eq0 c =
    let s = c.args.self.now in
    let reply : c.in_ok-listed.field-0 ≡ Listed (collection s.objects c.args.kind c.args.namespace.now) s.counter = search rules in
    ap (λ (r : Reply). (s, r)) reply ∙ list_step s c.args.kind c.args.namespace.now c.args.exact c.if-exact-eq0.true

pub list_at-requires : goal.list_at-requires
list_at-requires c = readable c.args.self.now.floor c.args.self.now.counter c.args.exact (sym c.denied.ensures ∙ c.in-None.is)

pub returns-in-Some : goal.returns-in-Some
returns-in-Some c =
    let s = c.args.self.now in
    ap (λ denial. (s, listed_at c.args.exact (collection (map_at s c.args.exact) c.args.kind c.args.namespace.now) denial)) (sym c.in-Some.is ∙ c.denied.ensures)
    ∙ list_at_step s c.args.kind c.args.namespace.now c.args.exact c.if-exact-eq0.false

pub returns-in_ok-listed-in-None : goal.returns-in_ok-listed-in-None
returns-in_ok-listed-in-None c =
    let s = c.args.self.now in
    let objects = collection (map_at s c.args.exact) c.args.kind c.args.namespace.now in
    let reply : c.in_ok-listed-in-None.field-0 ≡ Listed objects c.args.exact = search rules in
    ap (λ (r : Reply). (s, r)) reply ∙ ap (λ denial. (s, listed_at c.args.exact objects denial)) (sym c.in-None.is ∙ c.denied.ensures)
    ∙ list_at_step s c.args.kind c.args.namespace.now c.args.exact c.if-exact-eq0.false

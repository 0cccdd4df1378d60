use Rattle.std.proofs.Common.{ap, ◌∙◌}
use Rattle.version_map.specs.Consistent.{values_in}
use Rattle.version_map.proofs.Lists.{collection_is}
use Rattle.version_map.proofs.Tombstones.{listed_is}
use Rattle.version_map.proofs.map.VersionMap.list_at.Goals as goal

pub returns-then-self-number : goal.returns-then-self-number
returns-then-self-number g c =
    c.in_ok-values_at.ensures ∙ ap (λ cs. values_in c.args.number cs c.in_ok-listed.listed.items) c.deref.ensures.value ∙ ap (values_in c.args.number c.self.inside.chains.items) c.in_ok-listed.ensures.slots
    ∙ listed_is c.self.inside.gone_since c.args.number c.self.inside.index c.self.inside.chains.items _ c.args.kind c.args.namespace.now c.self.invariant.2 c.in_ok-listed.ensures.within
    (ap (λ v. v.rows) c.self.view_is) c.if-self-number.true

pub returns : goal.returns
returns g c =
    c.in_ok-values_at-2.ensures ∙ ap (λ cs. values_in c.args.number cs c.in_ok-slots.slots.items) c.deref-2.ensures.value ∙ ap (values_in c.args.number c.self.inside.chains.items) c.in_ok-slots.ensures
    ∙ collection_is c.args.number c.self.inside.index.all c.self.inside.chains.items _ c.args.kind c.args.namespace.now (ap (λ v. v.rows) c.self.view_is)

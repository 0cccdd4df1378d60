use Rattle.std.proofs.Common.{get_or, refl, sym, ◌∙◌}
use Rattle.version_map.proofs.Named.{key_read, name_read, none_read}
use Rattle.version_map.proofs.key_slots.KeySlots.get.Goals as goal

pub returns-in_err-names : goal.returns-in_err-names
returns-in_err-names c =
    let found = key_read c.self.inside.kinds _ c.index_of.result c.index-self-index_of.result c.self.view_is c.self.invariant c.index_of.ensures.within _ c.key.inside.kind c.key.inside.namespace c.key.inside.name c.key.view_is c.index_of.ensures.index in
    c.from_residual.ensures ∙ sym (found ∙ none_read (get_or c.self.inside.kinds c.index_of.result c.index-self-index_of.result) _ c.key.inside.namespace c.key.inside.name refl c.in_err-names.ensures.value)

pub returns : goal.returns
returns c =
    let found = key_read c.self.inside.kinds _ c.index_of.result c.index-self-index_of.result c.self.view_is c.self.invariant c.index_of.ensures.within _ c.key.inside.kind c.key.inside.namespace c.key.inside.name c.key.view_is c.index_of.ensures.index in
    c.get-2.ensures
    ∙ sym (found ∙ name_read (get_or c.self.inside.kinds c.index_of.result c.index-self-index_of.result) c.in_ok-names.names.now _ c.key.inside.namespace c.key.inside.name refl c.in_ok-names.ensures.value)

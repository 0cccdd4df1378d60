use Rattle.std.proofs.Common.{sym, ap, ◌∙◌, arith}
use Rattle.std.proofs.lemmas.Option.{IfSome_then}
use Rattle.version_map.specs.Rows.{state_to}
use Rattle.version_map.proofs.Chains.{rows_found}
use Rattle.version_map.proofs.Steps.{rows_read}
use Rattle.version_map.proofs.map.VersionMap.removed_at.Goals as goal

pub index-requires : goal.index-requires
index-requires g c = let within = c.self.invariant.0.slotted.within c.args.key.now c.in-Some.slot (sym c.in-Some.ensures) in omega arith

pub returns-in-Some : goal.returns-in-Some
returns-in-Some g c = IfSome_then c.removed_at.result c.removed_at.ensures (λ since none n from.
    sym (ap (state_to n) (rows_read c.self.inside.index.all c.self.inside.chains.items _ c.args.key.now c.in-Some.slot c.index.result.now c.self.invariant.0.slotted (ap (λ v. v.rows) c.self.view_is)
    (sym c.in-Some.ensures) c.index.ensures)) ∙ none n from)

pub returns-in-None : goal.returns-in-None
returns-in-None g c n from =
    ap (state_to n) (rows_found c.self.inside.index.all c.self.inside.chains.items _ c.args.key.now _ (ap (λ v. v.rows) c.self.view_is) (sym c.in-None.ensures))

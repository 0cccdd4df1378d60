use Rattle.std.proofs.Common.{sym, ap, ◌∙◌}
use Rattle.std.specs.Option.{option_copied}
use Rattle.version_map.specs.Rows.{state_to}
use Rattle.version_map.proofs.Chains.{rows_found}
use Rattle.version_map.proofs.Steps.{rows_read}
use Rattle.version_map.proofs.map.VersionMap.at.Goals as goal

pub returns-in_err-slot : goal.returns-in_err-slot
returns-in_err-slot g c =
    ap option_copied c.from_residual.ensures
    ∙ sym (ap (state_to c.args.number) (rows_found c.self.inside.index.all c.self.inside.chains.items _ c.args.key.now _ (ap (λ v. v.rows) c.self.view_is) (sym c.get.ensures ∙ c.in_err-slot.was)))

pub returns : goal.returns
returns g c =
    c.at.ensures
    ∙ ap (state_to c.args.number) (rows_read c.self.inside.index.all c.self.inside.chains.items _ c.args.key.now c.in_ok-slot.slot c.index.result.now c.self.invariant.0.slotted (ap (λ v. v.rows) c.self.view_is)
    (sym c.get.ensures ∙ c.in_ok-slot.was) c.index.ensures)

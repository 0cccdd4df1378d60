use Rattle.std.proofs.Common.{option_map, sym, ap, ◌∙◌}
use Rattle.std.specs.Option.{option_copied}
use Rattle.version_map.specs.Rows.{last_row}
use Rattle.version_map.proofs.Chains.{rows_found}
use Rattle.version_map.proofs.Steps.{rows_read}
use Rattle.version_map.proofs.map.VersionMap.newest.Goals as goal

pub returns-in_err-slot : goal.returns-in_err-slot
returns-in_err-slot g c =
    ap (option_map (λ p. (p.0, option_copied p.1))) c.from_residual.ensures
    ∙ sym (ap last_row (rows_found c.self.inside.index.all c.self.inside.chains.items _ c.args.key.now _ (ap (λ v. v.rows) c.self.view_is) (sym c.get.ensures ∙ c.in_err-slot.was)))

pub returns : goal.returns
returns g c =
    c.newest.ensures
    ∙ ap last_row (rows_read c.self.inside.index.all c.self.inside.chains.items _ c.args.key.now c.in_ok-slot.slot c.index.result.now c.self.invariant.0.slotted (ap (λ v. v.rows) c.self.view_is)
    (sym c.get.ensures ∙ c.in_ok-slot.was) c.index.ensures)

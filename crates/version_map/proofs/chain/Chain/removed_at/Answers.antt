use Rattle.std.proofs.Common.{sym, ap, ◌∙◌}
use Rattle.version_map.specs.Rows.{state_to}
use Rattle.version_map.proofs.Records.{at_newest}
use Rattle.version_map.proofs.chain.Chain.removed_at.Goals as goal

pub returns-in-None-state : goal.returns-in-None-state
returns-in-None-state g c n from =
    ap (λ v. state_to n v.rows) (sym c.self.view_is)
    ∙ at_newest n c.self.inside.older.items c.self.inside.newest c.in-Some.newest.now c.in-Some.ensures.value from ∙ c.in-None-state.is

use Rattle.std.proofs.Common.{subst}
use Rattle.version_map.specs.Forgotten.{AreForgotten}
use Rattle.version_map.proofs.Forgotten.{forgotten_none}
use Rattle.version_map.proofs.map.VersionMap.forget_next.Goals as goal

pub returns-in_default : goal.returns-in_default
returns-in_default g c = forgotten_none c.args.self.now _ c.next_removal.ensures

pub returns : goal.returns
returns g c = subst (λ v. AreForgotten v c.forget.new.self) c.next_removal.ensures c.forget.ensures

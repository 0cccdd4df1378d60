use Rattle.std.proofs.Common.{◌≡◌, is_some, Option, Some, None, refl, ap, ◌∙◌}
use Rattle.std.specs.Borrow.{Bor}
use Rattle.std.specs.Option.{option_copied}
use Rattle.version_map.specs.Versions.{value}
use Rattle.plain_store.proofs.Held.{found_is}
use Rattle.plain_store.proofs.store.Plain.is_there.Goals as goal

some_copied : {A : Type 0} (x : Option (Bor A)) → is_some x ≡ is_some (option_copied x)
some_copied None = refl
some_copied (Some b) = refl

pub returns-clause-there : goal.returns-clause-there
returns-clause-there c =
    c.is_some.ensures
    ∙ some_copied c.at.result
    ∙ ap is_some (c.at.ensures ∙ ap (λ v. value v.rows c.self.inside.counter c.args.key.now) c.look_up.ensures
    ∙ found_is c.self.inside.versions c.self.inside.counter c.self.inside.capacity c.args.self.now c.args.key.now c.self.view_is)

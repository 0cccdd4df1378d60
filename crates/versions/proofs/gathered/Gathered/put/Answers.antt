use Rattle.std.proofs.Common.{ap, ◌∙◌}
use Rattle.std.specs.FinMap as map
use Rattle.versions.proofs.Entries.{inserted}
use Rattle.versions.proofs.gathered.Gathered.put.Goals as goal

pub returns : goal.returns
returns c =
    inserted c.self.inside.objects c.insert.new.self c.in_ok-key.key c.args.object.key c.args.object (c.in_ok-key.ensures.cases ∙ ap (λ o. o.key) c.object.view_is) c.in_ok-insert.ensures.updates
    ∙ ap (λ m. map.insert m c.args.object.key c.args.object) c.self.view_is

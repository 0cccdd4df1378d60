use Rattle.std.proofs.Common.{sym, ◌∙◌}
use Rattle.objects.specs.Tree.{data_of}
use Rattle.set_views.proofs.NameSets.{contains_is}
use Rattle.manifests.proofs.VolumeNames.{named_among, unnamed}
use Rattle.manifests.proofs.volumes.is_replaced.Goals as goal

pub returns-in-Some : goal.returns-in-Some
returns-in-Some c =
    c.contains.ensures ∙ contains_is c.in-Some.name c.args.names.now.keys ∙ c.requires c.in-Some.name.now
    ∙ named_among (data_of c.args.volume.now) c.in-Some.name.now c.args.set.now.claims.items (sym c.in-Some.ensures)

pub returns-in-None : goal.returns-in-None
returns-in-None c = unnamed (data_of c.args.volume.now) c.args.set.now.claims.items (sym c.in-None.ensures)

use Rattle.std.proofs.Common.{ap}
use Rattle.objects.specs.Meta.{MetaParts}
use Rattle.compact_objects.specs.Merging.{uid_data}
use Rattle.compact_objects.proofs.Maps.{after_version}
use Rattle.compact_objects.proofs.seams.write_after_version.Goals as goal

pub returns : goal.returns
returns c ms ascending is are =
    let s = c.in_ok-known.ensures ms ascending is are in
    after_version _ (uid_data c.args.meta.now.uid) ms _ _ _ _ _ s (c.in_ok-write_rest.ensures s.rest s.ascending s.left_is s.entries_are)
    (ap (λ (m : MetaParts). uid_data m.uid) c.meta.view_is)

use Rattle.std.proofs.Common.{None, refl}
use Rattle.compact_objects.proofs.Creates.{created_indexed}
use Rattle.compact_objects.proofs.KnownDrafts.{status_kind}
use Rattle.compact_objects.proofs.creation.created.Goals as goal

pub of_indexed-requires : goal.of_indexed-requires
of_indexed-requires c =
    let d = c.requires.told.0 in
    let told = c.requires.told.1 in
    let indexed = c.in_ok-text.ensures told.members d None told.draft told.canonical told.integral told.reads refl tt (tt, tt) in
    (_, created_indexed d c.first_meta-meta.result c.args.number c.in_ok-text.field-0 c.in-Some.text (status_kind c.args.draft.now d told c.requires.status) c.first_meta-meta.ensures c.in-Some.is indexed)

pub returns-in_ok-of_indexed-in-Some : goal.returns-in_ok-of_indexed-in-Some
returns-in_ok-of_indexed-in-Some c d told =
    let indexed = c.in_ok-text.ensures told.members d None told.draft told.canonical told.integral told.reads refl tt (tt, tt) in
    c.in_ok-of_indexed-in-Some.ensures _
    (created_indexed d c.first_meta-meta.result c.args.number c.in_ok-text.field-0 c.in-Some.text (status_kind c.args.draft.now d told c.requires.status) c.first_meta-meta.ensures c.in-Some.is indexed)

use Rattle.std.proofs.Common.{◌≢◌, codes, subst}
use Rattle.serde_json.specs.Data.{object}
use Rattle.trees.proofs.PutOrder.{canonical_found}
use Rattle.objects.specs.Meta.{IsMeta, MetaParts}
use Rattle.compact_objects.proofs.IndexedTexts.{draft_indexed, made_of}
use Rattle.compact_objects.proofs.print.indexed.Goals as goal

pub returns-in-Some : goal.returns-in-Some
returns-in-Some c os d s is canonical whole reads ends one printable =
    let m = is.metadata_is in
    let metadata_canonical = canonical_found (codes "metadata") (object m.members) os canonical.1 m.found in
    draft_indexed c.args.draft.now.key c.args.meta.now os m.members d s c.args.end.now c.in-Some.seams.version c.in-Some.seams.status c.in-Some.seams.spec _ _ _ c.indexed_of.result is.read_as m.found canonical whole reads
    (subst IsMeta c.meta.view_is c.meta.invariant) (subst (λ (x : MetaParts). x.revision ≢ 0) c.meta.view_is c.if-meta-eq0.false) one printable
    (rw c.in-Some.is at (c.in_ok-written.ensures os m.members is.object_is canonical.0 m.is metadata_canonical.0)) ends
    (made_of c.args.meta.now _ _ _ _ c.indexed_of.result c.indexed_of.ensures.text c.indexed_of.ensures.meta c.indexed_of.ensures.seams c.indexed_of.ensures.spec)

use Rattle.std.proofs.Common.{◌≡◌, codes, subst}
use Rattle.serde_json.specs.Data.{object, put}
use Rattle.trees.specs.Tree.{data_of}
use Rattle.objects.specs.Object.{IsBody, without_held}
use Rattle.objects.proofs.Bodies.{body_fits}
use Rattle.objects.proofs.draft.finished.Goals as goal

pub invariant_of-result : goal.invariant_of-result
invariant_of-result c =
    let gives = c.in_ok-body.ensures c.requires.metadata.0 c.requires.metadata.1 in
    let same : object (put (codes "metadata") (object (without_held c.requires.metadata.0)) c.args.members) ≡ data_of c.in_ok-body.body = cc in
    subst (IsBody c.args.key.kind) same (body_fits c.args.key.kind c.args.members c.requires.metadata.0 c.requires.said c.requires.metadata.2)

use Rattle.std.proofs.Common.{Some, sym, ap, ◌∙◌}
use Rattle.trees.specs.Tree.{data_of}
use Rattle.objects.proofs.Bodies.{says_kind, is_object}
use Rattle.objects.proofs.draft.draft_in.Goals as goal

pub finished-requires : goal.finished-requires
finished-requires c = record {
  said = says_kind c.args.members c.in_ok-named.named c.in_ok-kind.kind c.in_ok-key.key.kind c.in_ok-named.ensures c.in_ok-kind.ensures c.in_ok-key.ensures.kind;
  metadata = (c.in-Some-as_map.metadata.now, sym c.in-Some.ensures ∙ ap Some (is_object (data_of c.in-Some.found.now) c.in-Some-as_map.metadata.now c.in-Some-as_map.ensures), sym c.metadata_fits.ensures ∙ c.if-not-metadata_fits.false);
}

use Rattle.compact_objects.proofs.Drafting.{read_as}
use Rattle.compact_objects.proofs.draft.CompactDraft.of_parts.Goals as goal

pub returns : goal.returns
returns c os ms ois found mis canonical = record {
  read_as =
      read_as os ms _ _ _ _ c.in-Some-meta_of.meta.generation (c.in-Some.ensures os ois) (c.is_of_version.ensures os ois c.if-not-is_of_version.false) found (rw c.in-Some-2.is at (c.in_ok-key.ensures ms mis))
      (c.labels_fit.ensures ms mis c.if-not-labels_fit.false) (c.owners_fit.ensures ms mis c.if-not-owners_fit.false) (c.in-Some-meta_of.ensures ms mis canonical);
  object_is = ois;
  metadata_is = record { members = ms; found = found; is = mis };
  spec_is = c.member.ensures os ois;
  status_is = c.member-2.ensures os ois;
}

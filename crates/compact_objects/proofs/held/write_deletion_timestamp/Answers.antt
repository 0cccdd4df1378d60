use Rattle.compact_objects.proofs.held.write_deletion_timestamp.Goals as goal

pub returns-in-Some : goal.returns-in-Some
returns-in-Some c = rw (c.in-Some.is) c.write_text.ensures

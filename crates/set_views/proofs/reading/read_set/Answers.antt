use Rattle.std.specs.Prelude.{option_map}
use Rattle.objects.specs.Tree.{data_of}
use Rattle.set_views.proofs.ClaimLabels.{labelled_in}
use Rattle.set_views.proofs.reading.read_set.Goals as goal

pub set_with-requires-clause-labelled : goal.set_with-requires-clause-labelled
set_with-requires-clause-labelled c = labelled_in (option_map (λ t. data_of t.now) c.present.result) c.in_ok-claims.claims.items c.in_ok-claims.ensures

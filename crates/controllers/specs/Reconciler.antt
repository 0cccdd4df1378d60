-- The reconciler that a controller is.
use Rattle.std.specs.Prelude.{ℕ, List}
use Rattle.objects.specs.declared.key.Key.{Key}
use Rattle.collector.specs.Collectable.{collection}
use Rattle.rounds.specs.Reconciler.{Reconciler}
use Rattle.controllers.specs.Planned.{or_none, requested}

-- The controller of a set: it sends the requests of the plan of the set, and collects claims. The names of new
-- revisions have that many digits, and pods are marked with that moment.
abbrev pub reconciler_with : Key → ℕ → List ℕ → Reconciler
reconciler_with set digits moment = record {
  set = set;
  plan = λ o revisions pods claims. or_none (requested o digits moment revisions pods claims);
  collect = collection;
}

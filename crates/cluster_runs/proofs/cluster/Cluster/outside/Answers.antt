use Rattle.std.proofs.Common.{length, rules}
use Rattle.history.proofs.Pieces.{on_ok_by}
use Rattle.cluster_runs.proofs.Showing.{outside_shows}
use Rattle.cluster_runs.proofs.cluster.Cluster.outside.Goals as goal

pub returns : goal.returns
returns g c = record {
  consistent = search rules;
  shows = on_ok_by _ _ c.call_outside.result (λ becomes z reconcilers k shows.
      outside_shows g.C.ControlLoop.reconciler g.C.ControlLoop.phase g.C.ControlLoop.is_waiting z reconcilers k c.args.self.now c.call_outside.new.self c.args.controllers.now _ _ shows (becomes z (length c.args.controllers.now) k shows.0))
      c.call_outside.ensures.shows;
  stays = search rules;
  too_many = λ failed z reconcilers k shows. c.call_outside.ensures.too_many failed z (length c.args.controllers.now) k shows.0;
}

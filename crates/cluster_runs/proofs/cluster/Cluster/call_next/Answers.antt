use Rattle.std.proofs.Common.{◌<◌, ◌++◌, ◌∷◌, [], ◌∙◌, ap, subst, sym, rules}
use Rattle.std.specs.Prelude.{slice_index_or}
use Rattle.interleavings.specs.declared.event.Event.TheVariants as event
use Rattle.interleavings.specs.Trace.{after}
use Rattle.interleavings.specs.World.{opening}
use Rattle.history.specs.Named.{callers}
use Rattle.history.proofs.Pieces.{on_ok_by}
use Rattle.rounds.proofs.Showing.{get_at}
use Rattle.cluster_runs.proofs.Showing.{at_err, called_few, called_shows, calls_next, present_at, stay_at}
use Rattle.cluster_runs.proofs.cluster.Cluster.call_next.Goals as goal

pub returns : goal.returns
returns g c =
    let xs = c.args.controllers.now in
    let x = slice_index_or xs c.args.number c.index-controllers-number.result in
    record {
      consistent = search rules;
      shows = on_ok_by _ _ c.forward_quietly.result (λ hands z reconcilers k shows.
          let there = get_at xs c.args.number c.index-controllers-number.result c.requires.there in
          let at = present_at _ k c.args.self.now shows.0.1 c.args.number c.index-caller.result.now c.requires.there c.index-caller.ensures in
          called_shows g.C.ControlLoop.reconciler g.C.ControlLoop.phase g.C.ControlLoop.is_waiting z reconcilers k c.args.self.now c.forward_quietly.new.self xs c.args.number x c.next.new.self _
          there c.next.ensures.reconciler c.next.ensures.phase c.in_ok-request.ensures.waiting
          (calls_next g.C.ControlLoop.reconciler g.C.ControlLoop.phase g.C.ControlLoop.is_waiting z reconcilers k c.args.self.now xs c.args.number x _ _ there at c.in_ok-request.ensures.asked shows)
          (ap (after z opening k.events).phase (sym at) ∙ (c.idle.ensures z k.events shows.0.0.taken).0 c.if-not-idle.false) hands shows) c.forward_quietly.ensures.hands;
      stays = at_err c.forward_quietly.result _ (stay_at g.C.ControlLoop.reconciler g.C.ControlLoop.phase xs c.args.number x c.next.new.self (get_at xs c.args.number c.index-controllers-number.result c.requires.there)
          c.next.ensures.reconciler c.next.ensures.phase);
      too_many = λ failed z reconcilers k shows.
          let at = present_at _ k c.args.self.now shows.0.1 c.args.number c.index-caller.result.now c.requires.there c.index-caller.ensures in
          absurd (called_few g.C.ControlLoop.reconciler g.C.ControlLoop.phase g.C.ControlLoop.is_waiting z reconcilers k c.args.self.now c.args.controllers.now c.args.number c.in_ok-request.request
          c.requires.there shows (subst (λ n. 4096 < callers (k.events ++ event.Call n c.in_ok-request.request ∷ [])) at (c.forward_quietly.ensures.too_many failed z k.events shows.0.0.taken)));
    }

pub returns-in_err-request : goal.returns-in_err-request
returns-in_err-request g c =
    let xs = c.args.controllers.now in
    let x = slice_index_or xs c.args.number c.index-controllers-number.result in
    record {
      consistent = search rules;
      shows = search rules;
      stays = at_err c.from_residual.result _ (stay_at g.C.ControlLoop.reconciler g.C.ControlLoop.phase xs c.args.number x c.next.new.self (get_at xs c.args.number c.index-controllers-number.result c.requires.there)
          c.next.ensures.reconciler c.next.ensures.phase);
      too_many = search rules;
    }

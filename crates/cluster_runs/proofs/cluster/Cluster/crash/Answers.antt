use Rattle.std.proofs.Common.{◌<◌, ◌++◌, ◌∷◌, [], ap, cond, length, lt-ltb, refl, rules, subst, sym}
use Rattle.std.specs.Prelude.{slice_index_or}
use Rattle.interleavings.specs.declared.event.Event.TheVariants as event
use Rattle.history.specs.Named.{callers}
use Rattle.cluster_runs.specs.Cluster.{Cluster, with_crash}
use Rattle.cluster_runs.specs.declared.cluster.Cluster.{Cluster as Program}
use Rattle.rounds.proofs.Showing.{get_at}
use Rattle.cluster_runs.proofs.Showing.{crash_few, crashed_shows, present_at}
use Rattle.cluster_runs.proofs.cluster.Cluster.crash.Goals as goal

pub returns-in_err-renew : goal.returns-in_err-renew
returns-in_err-renew g c = record {
  consistent = search rules;
  shows = search rules;
  stays = search rules;
  too_many = λ failed z reconcilers k shows.
      let count = length c.args.controllers.now in
      subst (λ (v : Cluster). 4096 < length v.used) (sym (ap (λ b. cond b (with_crash k c.args.number) k) (lt-ltb c.args.number count c.requires.there)))
      (c.in_err-renew.ensures.too_many (search (rules, failed)) count k shows.0.1);
}

pub returns-in_err-forward_quietly : goal.returns-in_err-forward_quietly
returns-in_err-forward_quietly g c = record {
  consistent = search rules;
  shows = search rules;
  stays = search rules;
  too_many = λ failed z reconcilers k shows.
      let middle : Program = record { replay = c.args.self.now.replay; callers = c.renew.new.self; events = c.args.self.now.events } in
      let at = present_at _ k c.args.self.now shows.0.1 c.args.number c.index-caller.result.now c.requires.there c.index-caller.ensures in
      absurd (crash_few g.C.ControlLoop.reconciler g.C.ControlLoop.phase g.C.ControlLoop.is_waiting z reconcilers k c.args.self.now middle c.args.controllers.now c.args.number
      c.requires.there shows (c.in_ok-renew.ensures.callers (length c.args.controllers.now) k shows.0.1)
      (subst (λ n. 4096 < callers (k.events ++ event.Crash n ∷ [])) at (c.in_err-forward_quietly.ensures.too_many (search (rules, failed)) z k.events shows.0.0.taken)));
}

pub returns : goal.returns
returns g c = record {
  consistent = search rules;
  shows = λ z reconcilers k shows.
      let middle : Program = record { replay = c.args.self.now.replay; callers = c.renew.new.self; events = c.args.self.now.events } in
      let xs = c.args.controllers.now in
      let x = slice_index_or xs c.args.number c.index-controllers-number.result in
      let there = get_at xs c.args.number c.index-controllers-number.result c.requires.there in
      let at = present_at _ k c.args.self.now shows.0.1 c.args.number c.index-caller.result.now c.requires.there c.index-caller.ensures in
      crashed_shows g.C.ControlLoop.reconciler g.C.ControlLoop.phase g.C.ControlLoop.is_waiting z reconcilers k c.args.self.now middle c.forward_quietly.new.self xs c.args.number x c.crash.new.self _
      there c.crash.ensures.reconciler c.crash.ensures.forgotten (c.in_ok-renew.ensures.callers (length xs) k shows.0.1) (c.in_ok-renew.ensures.fresh (length xs) k shows.0.1) refl refl
      (ap event.Crash at) c.in_ok-forward_quietly.ensures.hands shows;
  stays = search rules;
  too_many = search rules;
}

use Rattle.std.proofs.Common.{◌≡◌, ◌<◌, ◌∙◌, cond, refl, rules, subst, sym}
use Rattle.std.specs.Prelude.{Err}
use Rattle.cluster_runs.specs.Leading.{Leads}
use Rattle.cluster_runs.specs.Turns.{approach, asked_while, if_next, is_read_within, is_write, most_requests, nothing}
use Rattle.cluster_runs.proofs.Leading.{goes_no_further, goes_on, still_halts}
use Rattle.cluster_runs.proofs.Parts.{approach_is, peek_leads}
use Rattle.cluster_runs.proofs.cluster.Cluster.make_approach.Goals as goal

pub ask_while-requires : goal.ask_while-requires
ask_while-requires g c = record {
  consistent = record { present = c.in_ok-writes.ensures.many ∙ c.requires.consistent.present; follows = c.requires.consistent.follows };
  there = subst (λ m. c.args.number < m) (sym c.in_ok-writes.ensures.many) c.requires.there;
}

pub returns-in_err-writes : goal.returns-in_err-writes
returns-in_err-writes g c =
    let fault = c.in_err-writes.field-0.0 in
    let is : c.from_residual.result ≡ Err fault = search rules in
    goes_no_further g.C.ControlLoop.reconciler g.C.ControlLoop.phase g.C.ControlLoop.is_waiting fault is (search rules)
    (still_halts g.C.ControlLoop.reconciler g.C.ControlLoop.phase g.C.ControlLoop.is_waiting fault (approach c.args.number) c.args.self.now c.args.controllers.now c.is_next.new.controllers c.in_err-writes.ensures.stays (λ many. let both = sym c.in_err-writes.ensures.reasons ∙ many in cc))

pub returns-then-writes : goal.returns-then-writes
returns-then-writes g c = record {
  consistent = search rules;
  leads = subst (λ a. Leads g.C.ControlLoop.reconciler g.C.ControlLoop.phase g.C.ControlLoop.is_waiting a nothing c.args.self.now c.args.self.now c.args.controllers.now c.is_next.new.controllers) (sym (approach_is c.args.number))
      (subst (λ b. Leads g.C.ControlLoop.reconciler g.C.ControlLoop.phase g.C.ControlLoop.is_waiting (if_next is_write c.args.number nothing (asked_while is_read_within most_requests c.args.number)) (cond b nothing (asked_while is_read_within most_requests c.args.number)) c.args.self.now c.args.self.now c.args.controllers.now c.is_next.new.controllers) c.if-writes.true
      (peek_leads g.C.ControlLoop.reconciler g.C.ControlLoop.phase g.C.ControlLoop.is_waiting is_write c.args.number nothing (asked_while is_read_within most_requests c.args.number) c.in_ok-writes.writes c.args.self.now c.args.controllers.now c.is_next.new.controllers c.in_ok-writes.ensures.peeks));
  halts = search rules;
}

pub returns : goal.returns
returns g c =
    goes_on g.C.ControlLoop.reconciler g.C.ControlLoop.phase g.C.ControlLoop.is_waiting (approach c.args.number) c.in_ok-writes.ensures.many refl
    (subst (λ a. Leads g.C.ControlLoop.reconciler g.C.ControlLoop.phase g.C.ControlLoop.is_waiting a (asked_while is_read_within most_requests c.args.number) c.args.self.now c.args.self.now c.args.controllers.now c.is_next.new.controllers) (sym (approach_is c.args.number))
    (subst (λ b. Leads g.C.ControlLoop.reconciler g.C.ControlLoop.phase g.C.ControlLoop.is_waiting (if_next is_write c.args.number nothing (asked_while is_read_within most_requests c.args.number)) (cond b nothing (asked_while is_read_within most_requests c.args.number)) c.args.self.now c.args.self.now c.args.controllers.now c.is_next.new.controllers) c.if-writes.false
    (peek_leads g.C.ControlLoop.reconciler g.C.ControlLoop.phase g.C.ControlLoop.is_waiting is_write c.args.number nothing (asked_while is_read_within most_requests c.args.number) c.in_ok-writes.writes c.args.self.now c.args.controllers.now c.is_next.new.controllers c.in_ok-writes.ensures.peeks)))
    c.ask_while.ensures

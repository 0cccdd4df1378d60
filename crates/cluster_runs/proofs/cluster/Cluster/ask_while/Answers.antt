use Rattle.std.proofs.Common.{◌≡◌, ◌<◌, ◌∙◌, ◌+◌, ◌-◌, cond, refl, rules, subst, sym}
use Rattle.std.specs.Prelude.{Err}
use Rattle.cluster_runs.specs.Leading.{Halts, Leads, is_meant}
use Rattle.cluster_runs.specs.Turns.{asked, asked_while, if_next, most_requests, nothing}
use Rattle.cluster_runs.proofs.Leading.{far_ends, far_halts, far_on, first_halts, first_leads, goes_no_further, halts_on, leads_on, self_leads, still_halts}
use Rattle.cluster_runs.proofs.Parts.{asked_none, asked_on, peek_leads}
use Rattle.cluster_runs.proofs.cluster.Cluster.ask_while.Goals as goal

pub ask_next-requires : goal.ask_next-requires
ask_next-requires g c = record {
  consistent = record { present = c.loop.invariant.present; follows = c.loop.invariant.follows };
  there = subst (λ m. c.args.number < m) (sym c.loop.invariant.many) c.requires.there;
}

pub is_next-requires : goal.is_next-requires
is_next-requires g c = record {
  present = c.in_ok-ask_next.ensures.consistent.many ∙ c.loop.invariant.present ∙ sym c.in_ok-ask_next.ensures.consistent.present;
  there = subst (λ m. c.args.number < m) (sym (c.in_ok-ask_next.ensures.consistent.many ∙ c.loop.invariant.many)) c.requires.there;
}

pub loop-init : goal.loop-init
loop-init g c = record { many = refl; present = c.requires.consistent.present; follows = c.requires.consistent.follows; leads = self_leads g.C.ControlLoop.reconciler g.C.ControlLoop.phase g.C.ControlLoop.is_waiting (asked_while (is_meant c.args.meant) most_requests c.args.number) c.args.self.now c.args.controllers.now }

pub loop-preserved : goal.loop-preserved
loop-preserved g c =
    let kept = c.loop.invariant in
    let left = most_requests - (c.loop.counter + 1) in
    let such = is_meant c.args.meant in
    let next = if_next such c.args.number (asked_while such left c.args.number) nothing in record {
      many = c.in_ok-more.ensures.many ∙ c.in_ok-ask_next.ensures.consistent.many ∙ kept.many;
      present = c.in_ok-more.ensures.many ∙ c.in_ok-ask_next.ensures.consistent.many ∙ kept.present ∙ sym c.in_ok-ask_next.ensures.consistent.present;
      follows = c.in_ok-ask_next.ensures.consistent.follows;
      leads = subst (λ b. Leads g.C.ControlLoop.reconciler g.C.ControlLoop.phase g.C.ControlLoop.is_waiting (asked_while (is_meant c.args.meant) most_requests c.args.number) (cond b (asked_while (is_meant c.args.meant) left c.args.number) nothing) c.args.self.now c.ask_next.new.self c.args.controllers.now c.is_next.new.controllers) c.if-not-more.false
          (far_on g.C.ControlLoop.reconciler g.C.ControlLoop.phase g.C.ControlLoop.is_waiting (asked_while (is_meant c.args.meant) most_requests c.args.number) (λ requests. asked_while (is_meant c.args.meant) requests c.args.number) most_requests c.loop.counter (cond c.in_ok-more.more (asked_while (is_meant c.args.meant) left c.args.number) nothing) c.args.self.now c.loop.self c.ask_next.new.self
          c.args.controllers.now c.loop.controllers c.is_next.new.controllers c.loop-test.true kept.many kept.leads
          (subst (λ whole. Leads g.C.ControlLoop.reconciler g.C.ControlLoop.phase g.C.ControlLoop.is_waiting whole (cond c.in_ok-more.more (asked_while (is_meant c.args.meant) left c.args.number) nothing) c.loop.self c.ask_next.new.self c.loop.controllers c.is_next.new.controllers) (sym (asked_on (is_meant c.args.meant) left c.args.number))
          (leads_on g.C.ControlLoop.reconciler g.C.ControlLoop.phase g.C.ControlLoop.is_waiting _ next _ c.loop.self c.ask_next.new.self c.ask_next.new.self c.loop.controllers c.ask_next.new.controllers c.is_next.new.controllers c.in_ok-ask_next.ensures.consistent.many
          (first_leads g.C.ControlLoop.reconciler g.C.ControlLoop.phase g.C.ControlLoop.is_waiting (asked c.args.number) c.in_ok-ask_next.field-0 (λ delivered. next) c.loop.self c.ask_next.new.self c.loop.controllers c.ask_next.new.controllers c.in_ok-ask_next.ensures.leads)
          (peek_leads g.C.ControlLoop.reconciler g.C.ControlLoop.phase g.C.ControlLoop.is_waiting (is_meant c.args.meant) c.args.number (asked_while (is_meant c.args.meant) left c.args.number) nothing c.in_ok-more.more c.ask_next.new.self c.ask_next.new.controllers c.is_next.new.controllers c.in_ok-more.ensures.peeks))));
    }

pub returns-then-not-more : goal.returns-then-not-more
returns-then-not-more g c =
    let kept = c.loop.invariant in
    let left = most_requests - (c.loop.counter + 1) in
    let such = is_meant c.args.meant in
    let next = if_next such c.args.number (asked_while such left c.args.number) nothing in
    record {
      consistent = search rules;
      leads = subst (λ b. Leads g.C.ControlLoop.reconciler g.C.ControlLoop.phase g.C.ControlLoop.is_waiting (asked_while (is_meant c.args.meant) most_requests c.args.number) (cond b (asked_while (is_meant c.args.meant) left c.args.number) nothing) c.args.self.now c.ask_next.new.self c.args.controllers.now c.is_next.new.controllers) c.if-not-more.true
          (far_on g.C.ControlLoop.reconciler g.C.ControlLoop.phase g.C.ControlLoop.is_waiting (asked_while (is_meant c.args.meant) most_requests c.args.number) (λ requests. asked_while (is_meant c.args.meant) requests c.args.number) most_requests c.loop.counter (cond c.in_ok-more.more (asked_while (is_meant c.args.meant) left c.args.number) nothing) c.args.self.now c.loop.self c.ask_next.new.self
          c.args.controllers.now c.loop.controllers c.is_next.new.controllers c.loop-test.true kept.many kept.leads
          (subst (λ whole. Leads g.C.ControlLoop.reconciler g.C.ControlLoop.phase g.C.ControlLoop.is_waiting whole (cond c.in_ok-more.more (asked_while (is_meant c.args.meant) left c.args.number) nothing) c.loop.self c.ask_next.new.self c.loop.controllers c.is_next.new.controllers) (sym (asked_on (is_meant c.args.meant) left c.args.number))
          (leads_on g.C.ControlLoop.reconciler g.C.ControlLoop.phase g.C.ControlLoop.is_waiting _ next _ c.loop.self c.ask_next.new.self c.ask_next.new.self c.loop.controllers c.ask_next.new.controllers c.is_next.new.controllers c.in_ok-ask_next.ensures.consistent.many
          (first_leads g.C.ControlLoop.reconciler g.C.ControlLoop.phase g.C.ControlLoop.is_waiting (asked c.args.number) c.in_ok-ask_next.field-0 (λ delivered. next) c.loop.self c.ask_next.new.self c.loop.controllers c.ask_next.new.controllers c.in_ok-ask_next.ensures.leads)
          (peek_leads g.C.ControlLoop.reconciler g.C.ControlLoop.phase g.C.ControlLoop.is_waiting (is_meant c.args.meant) c.args.number (asked_while (is_meant c.args.meant) left c.args.number) nothing c.in_ok-more.more c.ask_next.new.self c.ask_next.new.controllers c.is_next.new.controllers c.in_ok-more.ensures.peeks))));
      halts = search rules;
    }

pub returns-in_err-ask_next : goal.returns-in_err-ask_next
returns-in_err-ask_next g c =
    let kept = c.loop.invariant in
    let left = most_requests - (c.loop.counter + 1) in
    let fault = c.in_err-ask_next.field-0.0 in
    let is : c.from_residual.result ≡ Err fault = search rules in
    goes_no_further g.C.ControlLoop.reconciler g.C.ControlLoop.phase g.C.ControlLoop.is_waiting fault is (search rules)
    (far_halts g.C.ControlLoop.reconciler g.C.ControlLoop.phase g.C.ControlLoop.is_waiting (asked_while (is_meant c.args.meant) most_requests c.args.number) (λ requests. asked_while (is_meant c.args.meant) requests c.args.number) most_requests c.loop.counter fault c.args.self.now c.loop.self c.args.controllers.now c.loop.controllers c.ask_next.new.controllers
    c.loop-test.true kept.many kept.leads
    (subst (λ whole. Halts g.C.ControlLoop.reconciler g.C.ControlLoop.phase g.C.ControlLoop.is_waiting fault whole c.loop.self c.loop.controllers c.ask_next.new.controllers) (sym (asked_on (is_meant c.args.meant) left c.args.number))
    (first_halts g.C.ControlLoop.reconciler g.C.ControlLoop.phase g.C.ControlLoop.is_waiting fault (asked c.args.number) (λ delivered. if_next (is_meant c.args.meant) c.args.number (asked_while (is_meant c.args.meant) left c.args.number) nothing) c.loop.self c.loop.controllers c.ask_next.new.controllers c.in_err-ask_next.ensures.halts)))

pub returns-in_err-more : goal.returns-in_err-more
returns-in_err-more g c =
    let kept = c.loop.invariant in
    let left = most_requests - (c.loop.counter + 1) in
    let such = is_meant c.args.meant in
    let next = if_next such c.args.number (asked_while such left c.args.number) nothing in
    let fault = c.in_err-more.field-0.0 in
    let is : c.from_residual-in_err-more.result ≡ Err fault = search rules in
    goes_no_further g.C.ControlLoop.reconciler g.C.ControlLoop.phase g.C.ControlLoop.is_waiting fault is (search rules)
    (far_halts g.C.ControlLoop.reconciler g.C.ControlLoop.phase g.C.ControlLoop.is_waiting (asked_while (is_meant c.args.meant) most_requests c.args.number) (λ requests. asked_while (is_meant c.args.meant) requests c.args.number) most_requests c.loop.counter fault c.args.self.now c.loop.self c.args.controllers.now c.loop.controllers c.is_next.new.controllers
    c.loop-test.true kept.many kept.leads
    (subst (λ whole. Halts g.C.ControlLoop.reconciler g.C.ControlLoop.phase g.C.ControlLoop.is_waiting fault whole c.loop.self c.loop.controllers c.is_next.new.controllers) (sym (asked_on (is_meant c.args.meant) left c.args.number))
    (halts_on g.C.ControlLoop.reconciler g.C.ControlLoop.phase g.C.ControlLoop.is_waiting fault _ next c.loop.self c.ask_next.new.self c.loop.controllers c.ask_next.new.controllers c.is_next.new.controllers c.in_ok-ask_next.ensures.consistent.many
    (first_leads g.C.ControlLoop.reconciler g.C.ControlLoop.phase g.C.ControlLoop.is_waiting (asked c.args.number) c.in_ok-ask_next.field-0 (λ delivered. next) c.loop.self c.ask_next.new.self c.loop.controllers c.ask_next.new.controllers c.in_ok-ask_next.ensures.leads)
    (still_halts g.C.ControlLoop.reconciler g.C.ControlLoop.phase g.C.ControlLoop.is_waiting fault next c.ask_next.new.self c.ask_next.new.controllers c.is_next.new.controllers c.in_err-more.ensures.stays (λ many. let both = sym c.in_err-more.ensures.reasons ∙ many in cc)))))

pub returns : goal.returns
returns g c = record {
  consistent = search rules;
  leads = far_ends g.C.ControlLoop.reconciler g.C.ControlLoop.phase g.C.ControlLoop.is_waiting (asked_while (is_meant c.args.meant) most_requests c.args.number) (λ requests. asked_while (is_meant c.args.meant) requests c.args.number) most_requests c.loop.counter c.args.self.now c.loop.self c.args.controllers.now c.loop.controllers (asked_none (is_meant c.args.meant) c.args.number)
      c.loop-test.false c.loop.invariant.leads;
  halts = search rules;
}

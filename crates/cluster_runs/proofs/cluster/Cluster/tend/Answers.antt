use Rattle.std.proofs.Common.{◌≡◌, ◌∙◌, refl, rules, subst}
use Rattle.std.specs.Prelude.{Err}
use Rattle.objects.specs.declared.kind.Kind.TheVariants.{Pod}
use Rattle.requests.specs.declared.request.Request.TheVariants as request
use Rattle.cluster_runs.specs.Leading.{Halts, Leads, GoesAlong}
use Rattle.cluster_runs.specs.Turns.{asked_all, asked_as, ends_with, nothing, tended, tends}
use Rattle.cluster_runs.proofs.Leading.{first_halts, first_leads, goes_no_further, goes_on, halts_on, still_halts}
use Rattle.cluster_runs.specs.declared.fault.ClusterFault.TheVariants.{Memory as OutOfMemory, TooManyCallers}
use Rattle.cluster_runs.proofs.cluster.Cluster.tend.Goals as goal

not_many : OutOfMemory ≡ TooManyCallers → ⊥
not_many many = cc

pub returns-in_err-list : goal.returns-in_err-list
returns-in_err-list g c =
    let is : c.from_residual.result ≡ Err OutOfMemory = search rules in
    goes_no_further g.C.ControlLoop.reconciler g.C.ControlLoop.phase g.C.ControlLoop.is_waiting OutOfMemory is (search rules)
    (still_halts g.C.ControlLoop.reconciler g.C.ControlLoop.phase g.C.ControlLoop.is_waiting OutOfMemory (tended c.args.caller c.args.namespace.now) c.args.self.now c.args.controllers.now c.args.controllers.now (refl, refl) not_many)

pub returns-in_err-delivered : goal.returns-in_err-delivered
returns-in_err-delivered g c =
    let fault = c.in_err-delivered.field-0.0 in
    let is : c.from_residual-in_err-delivered.result ≡ Err fault = search rules in
    goes_no_further g.C.ControlLoop.reconciler g.C.ControlLoop.phase g.C.ControlLoop.is_waiting fault is (search rules)
    (first_halts g.C.ControlLoop.reconciler g.C.ControlLoop.phase g.C.ControlLoop.is_waiting fault (asked_as c.args.caller (request.List Pod c.args.namespace.now 0)) (λ delivered. asked_all c.args.caller (tends delivered)) c.args.self.now c.args.controllers.now c.ask-listed.new.controllers
    (subst (λ q. Halts g.C.ControlLoop.reconciler g.C.ControlLoop.phase g.C.ControlLoop.is_waiting fault (asked_as c.args.caller q) c.args.self.now c.args.controllers.now c.ask-listed.new.controllers) c.in_ok-list.ensures c.in_err-delivered.ensures.halts))

pub returns : goal.returns
returns g c =
    let delivered = c.in_ok-delivered.delivered in
    let kept = c.in_ok-delivered.ensures.consistent in
    goes_on g.C.ControlLoop.reconciler g.C.ControlLoop.phase g.C.ControlLoop.is_waiting (tended c.args.caller c.args.namespace.now) kept.many kept.present
    (first_leads g.C.ControlLoop.reconciler g.C.ControlLoop.phase g.C.ControlLoop.is_waiting (asked_as c.args.caller (request.List Pod c.args.namespace.now 0)) delivered (λ delivered. asked_all c.args.caller (tends delivered)) c.args.self.now c.ask-listed.new.self c.args.controllers.now c.ask-listed.new.controllers
    (subst (λ q. Leads g.C.ControlLoop.reconciler g.C.ControlLoop.phase g.C.ControlLoop.is_waiting (asked_as c.args.caller q) (ends_with delivered) c.args.self.now c.ask-listed.new.self c.args.controllers.now c.ask-listed.new.controllers) c.in_ok-list.ensures c.in_ok-delivered.ensures.leads))
    (subst (λ rs. GoesAlong g.C.ControlLoop.reconciler g.C.ControlLoop.phase g.C.ControlLoop.is_waiting (asked_all c.args.caller rs) (λ done. nothing) c.ask-listed.new.self c.ask_all-asked.new.self c.ask-listed.new.controllers c.ask_all-asked.new.controllers c.ask_all-asked.result)
    (c.as_slice.ensures.value ∙ c.in_ok-requests.ensures) c.ask_all-asked.ensures)

pub returns-in_err-requests : goal.returns-in_err-requests
returns-in_err-requests g c =
    let delivered = c.in_ok-delivered.delivered in
    let is : c.from_residual-in_err-requests.result ≡ Err OutOfMemory = search rules in
    goes_no_further g.C.ControlLoop.reconciler g.C.ControlLoop.phase g.C.ControlLoop.is_waiting OutOfMemory is (search rules)
    (halts_on g.C.ControlLoop.reconciler g.C.ControlLoop.phase g.C.ControlLoop.is_waiting OutOfMemory (tended c.args.caller c.args.namespace.now) (asked_all c.args.caller (tends delivered)) c.args.self.now c.ask-listed.new.self c.args.controllers.now c.ask-listed.new.controllers c.ask-listed.new.controllers c.in_ok-delivered.ensures.consistent.many
    (first_leads g.C.ControlLoop.reconciler g.C.ControlLoop.phase g.C.ControlLoop.is_waiting (asked_as c.args.caller (request.List Pod c.args.namespace.now 0)) delivered (λ delivered. asked_all c.args.caller (tends delivered)) c.args.self.now c.ask-listed.new.self c.args.controllers.now c.ask-listed.new.controllers
    (subst (λ q. Leads g.C.ControlLoop.reconciler g.C.ControlLoop.phase g.C.ControlLoop.is_waiting (asked_as c.args.caller q) (ends_with delivered) c.args.self.now c.ask-listed.new.self c.args.controllers.now c.ask-listed.new.controllers) c.in_ok-list.ensures c.in_ok-delivered.ensures.leads))
    (still_halts g.C.ControlLoop.reconciler g.C.ControlLoop.phase g.C.ControlLoop.is_waiting OutOfMemory (asked_all c.args.caller (tends delivered)) c.ask-listed.new.self c.ask-listed.new.controllers c.ask-listed.new.controllers (refl, refl) not_many))

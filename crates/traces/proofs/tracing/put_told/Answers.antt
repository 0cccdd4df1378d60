use Rattle.std.proofs.Common.{◌++◌, ◌∷◌, [], ap, arith, string_bytes}
use Rattle.pictures.proofs.Runs.{frontier_small}
use Rattle.traces.specs.declared.run_state.RunState.{RunState}
use Rattle.traces.proofs.Runs.{step_line}
use Rattle.traces.proofs.tracing.put_told.Goals as goal

pub put_line-put-requires : goal.put_line-put-requires
put_line-put-requires g c =
    let reached = c.step.ensures.reached in
    let events = reached.events ++ c.args.event.now ∷ [] in
    let done = c.in_ok-delivered.ensures.done reached.size reached.events reached.after in
    let same = ap (λ (m : RunState). m.frontier) (c.take_run_state-after.ensures reached.size events done) in
    let small = frontier_small reached.size events _ done in
    omega (arith, same, small)

pub returns-clause-put : goal.returns-clause-put
returns-clause-put g c = λ size before is.
    step_line (g.R.Roles.role c.args.roles.now) size before c.args.event.now c.events-place.result c.caller-caller.result c.take_run_state-before.result c.take_run_state-after.result c.in_ok-delivered.delivered
    (string_bytes c.args.out.now) _ (c.events-place.ensures.count size before is) c.caller-caller.ensures (c.take_run_state-before.ensures size before is)
    (c.take_run_state-after.ensures size (before ++ c.args.event.now ∷ []) (c.in_ok-delivered.ensures.done size before is)) (c.in_ok-delivered.ensures.delivered size before is) c.in_ok-put.ensures

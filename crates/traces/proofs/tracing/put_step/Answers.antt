use Rattle.std.proofs.Common.{◌++◌, ap, length, string_bytes, ◌∙◌}
use Rattle.interleavings.specs.Step.{step}
use Rattle.interleavings.specs.Trace.{after}
use Rattle.interleavings.specs.World.{opening}
use Rattle.pictures.proofs.Pieces.{two}
use Rattle.traces.specs.Traced.{line_between}
use Rattle.traces.proofs.tracing.put_step.Goals as goal

pub returns-clause-put : goal.returns-clause-put
returns-clause-put g c = λ size before is.
    let w = after size opening before in
    let line = line_between (g.R.Roles.role c.args.roles.now) size (length before) c.args.event.now w (step size w c.args.event.now) in
    let note = g.N.Notes.note c.args.notes.now in
    two (string_bytes c.args.out.now) _ _ line (note c.events-place.result) (c.in_ok-put_told.ensures.put size before is) c.in_ok-put_note.ensures
    ∙ ap (λ place. string_bytes c.args.out.now ++ (line ++ note place)) (c.events-place.ensures.count size before is)

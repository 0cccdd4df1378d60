use Rattle.std.proofs.Common.{◌++◌, ap, length, string_bytes, sym, ◌∙◌}
use Rattle.std.specs.List.{concat}
use Rattle.std.proofs.lemmas.Result.{on_ok_weaker}
use Rattle.interleavings.specs.Trace.{after}
use Rattle.interleavings.specs.World.{opening}
use Rattle.pictures.proofs.Pieces.{two}
use Rattle.traces.specs.Traced.{line_words, texts_of}
use Rattle.traces.proofs.Sections.{texts_length}
use Rattle.traces.proofs.tracing.put_section.Goals as goal

pub returns-clause-put : goal.returns-clause-put
returns-clause-put g c = λ size before is.
    let role = g.R.Roles.role c.args.roles.now in
    let note = g.N.Notes.note c.args.notes.now in
    let w = after size opening before in
    let texts = texts_of role note size (length before) w c.args.events.now in
    let old = string_bytes c.args.out.now in
    on_ok_weaker c.put_events.result (λ last.
    two old _ _ (line_words c.args.line (length c.args.events.now)) (concat texts) c.in_ok-put_line_number.ensures last
    ∙ ap (λ n. old ++ (line_words c.args.line n ++ concat texts)) (sym (texts_length role note size (length before) w c.args.events.now)))
    (c.put_events.ensures.put size before is)

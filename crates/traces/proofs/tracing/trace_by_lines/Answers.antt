use Rattle.std.proofs.Common.{◌-◌, ◌≤◌, ◌++◌, List, ap, arith, drop, length, rules, string_bytes, subst, sym, take, ◌∙◌}
use Rattle.std.proofs.lemmas.List.{length-drop, length-take, take-append-drop, take_rest}
use Rattle.history.specs.After.{IsAfter, taken}
use Rattle.history.specs.Named.{callers}
use Rattle.interleavings.specs.declared.event.Event.{Event}
use Rattle.interleavings.specs.World.{Size}
use Rattle.traces.specs.Traced.{trace_by_lines_text}
use Rattle.traces.proofs.Runs.{callers_first}
use Rattle.traces.proofs.Sections.{section_next, sections_done, taken_in_all}
use Rattle.traces.proofs.tracing.trace_by_lines.Goals as goal

pub loop-end-init : goal.loop-end-init
unfolding IsAfter taken
loop-end-init g c =
    let z : Size = record { capacity = c.args.capacity; shards = c.args.shards } in
    record {
      inside = omega arith;
      number = omega arith;
      count = c.in_ok-replay.ensures.opened.0.count;
      run = c.in_ok-replay.ensures.opened;
      told = ap (λ t. t ++ trace_by_lines_text (g.R.Roles.role c.args.roles.now) (g.N.Notes.note c.args.notes.now) z c.args.events.now c.args.ends.now c.args.first_line) c.new-text.ensures.bytes;
    }

pub put_section-requires : goal.put_section-requires
put_section-requires g c =
    let es = c.args.events.now in
    let fits = c.well_formed in
    omega (arith, fits, length-take (c.stop_of-stop.result - c.loop-end.place) (drop c.loop-end.place es), length-drop c.loop-end.place es)

pub put_events-requires : goal.put_events-requires
put_events-requires g c =
    let fits = c.well_formed in
    omega (arith, fits, length-drop c.loop-end.place c.args.events.now)

pub loop-end-preserved : goal.loop-end-preserved
loop-end-preserved g c =
    let z : Size = record { capacity = c.args.capacity; shards = c.args.shards } in
    let es = c.args.events.now in
    let place = c.loop-end.place in
    let stop = c.stop_of-stop.result in
    let so_far = c.loop-end.invariant in
    let order : place ≤ stop = omega arith in
    record {
      inside = omega arith;
      number = omega arith;
      count = omega (arith, c.in_ok-put_section.ensures.count, length-take (stop - place) (drop place es), length-drop place es);
      run =
          subst (λ (xs : List Event). IsAfter z xs c.put_section.new.replay) (sym (taken_in_all es place stop order))
          (c.in_ok-put_section.ensures.done z (take place es) so_far.run);
      told =
          section_next (g.R.Roles.role c.args.roles.now) (g.N.Notes.note c.args.notes.now) z es c.args.ends.now c.loop-end.end-index c.loop-end.line place stop (string_bytes c.loop-end.text) (string_bytes c.put_section.new.out)
          (trace_by_lines_text (g.R.Roles.role c.args.roles.now) (g.N.Notes.note c.args.notes.now) z es c.args.ends.now c.args.first_line)
          so_far.inside c.stop_of-stop.ensures c.loop-end-test.true so_far.told (c.in_ok-put_section.ensures.put z (take place es) so_far.run);
    }

pub returns-in_err-put_section-clause-too_many : goal.returns-in_err-put_section-clause-too_many
returns-in_err-put_section-clause-too_many g c = λ x.
    let z : Size = record { capacity = c.args.capacity; shards = c.args.shards } in
    let es = c.args.events.now in
    let place = c.loop-end.place in
    let stop = c.stop_of-stop.result in
    let many = c.in_err-put_section.ensures.too_many z (take place es) c.loop-end.invariant.run (search (rules, x)) in
    let first = ap callers (sym (taken_in_all es place stop (omega arith))) in
    let less = callers_first stop es in
    omega (arith, many, first, less)

pub returns-in_err-put_events-clause-too_many : goal.returns-in_err-put_events-clause-too_many
returns-in_err-put_events-clause-too_many g c = λ x.
    let z : Size = record { capacity = c.args.capacity; shards = c.args.shards } in
    let es = c.args.events.now in
    let place = c.loop-end.place in
    let many = c.in_err-put_events.ensures.too_many z (take place es) c.loop-end.invariant.run (search (rules, x)) in
    let all = ap callers (ap (λ xs. take place es ++ xs) (take_rest es place) ∙ take-append-drop place es) in
    omega (arith, many, all)

pub returns-clause-few : goal.returns-clause-few
unfolding IsAfter
returns-clause-few g c =
    let z : Size = record { capacity = c.args.capacity; shards = c.args.shards } in
    let es = c.args.events.now in
    let place = c.loop-end.place in
    let after = c.in_ok-put_events.ensures.done z (take place es) c.loop-end.invariant.run in
    let names = ap length after.1.0 in
    let all = ap callers (ap (λ xs. take place es ++ xs) (take_rest es place) ∙ take-append-drop place es) in
    let few = after.1.1 in
    omega (arith, names, all, few)

pub returns-clause-trace : goal.returns-clause-trace
returns-clause-trace g c =
    let z : Size = record { capacity = c.args.capacity; shards = c.args.shards } in
    let es = c.args.events.now in
    let so_far = c.loop-end.invariant in
    let told =
    sections_done (g.R.Roles.role c.args.roles.now) (g.N.Notes.note c.args.notes.now) z es c.args.ends.now c.loop-end.end-index c.loop-end.line c.loop-end.place (string_bytes c.loop-end.text) (string_bytes c.put_events.new.out)
    (trace_by_lines_text (g.R.Roles.role c.args.roles.now) (g.N.Notes.note c.args.notes.now) z es c.args.ends.now c.args.first_line)
    so_far.inside c.loop-end-test.false so_far.told (c.in_ok-put_events.ensures.put z (take c.loop-end.place es) so_far.run) in
    rw c.into_bytes.ensures.value told

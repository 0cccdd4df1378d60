use Rattle.std.proofs.Common.{◌≡◌, ◌+◌, ◌≤◌, ◌++◌, drop, length, string_bytes, take}
use Rattle.history.specs.After.{IsAfter, taken}
use Rattle.interleavings.specs.Trace.{after}
use Rattle.interleavings.specs.World.{Size, opening}
use Rattle.traces.specs.Traced.{sections, texts_of, trace_by_lines_text}
use Rattle.traces.proofs.tracing.trace_by_lines.Given as goal

-- what was appended, and the text of the rest, are all of the text
abbrev pub invariant-loop-end : goal.invariant-loop-end
invariant-loop-end g l =
    let z : Size = record { capacity = l.capacity; shards = l.shards } in
    let role = g.R.Roles.role l.roles in
    let note = g.N.Notes.note l.notes in
    record {
      inside : l.place ≤ length l.events;
      number : l.line ≡ l.first_line + l.end-index;
      count : taken l.replay ≡ l.place;
      run : IsAfter z (take l.place l.events) l.replay;
      told : string_bytes l.text
          ++ sections l.line l.place (drop l.end-index l.ends) (texts_of role note z l.place (after z opening (take l.place l.events)) (drop l.place l.events))
          ≡ trace_by_lines_text role note z l.events l.ends l.first_line;
    }

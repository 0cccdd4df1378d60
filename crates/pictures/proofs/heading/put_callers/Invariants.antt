use Rattle.std.proofs.Common.{◌≡◌, ◌++◌, string_bytes}
use Rattle.std.specs.List.{flat_map}
use Rattle.pictures.specs.Heading.{caller_line}
use Rattle.pictures.proofs.heading.put_callers.Given as goal

-- what was appended, and the lines of the callers that are left, are all of the text
abbrev pub invariant-loop-caller : goal.invariant-loop-caller
invariant-loop-caller g l =
    let lines = flat_map (caller_line (g.R.Roles.role l.roles)) in
    string_bytes l.out ++ lines l.caller-iterator ≡ string_bytes l.fn.out ++ lines l.callers.keys

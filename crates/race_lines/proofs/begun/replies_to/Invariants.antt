use Rattle.std.proofs.Common.{◌++◌, ◌≡◌, drop}
use Rattle.plain_store.specs.Run.{replies}
use Rattle.race_lines.proofs.begun.replies_to.Given as goal

abbrev pub invariant-loop-request : goal.invariant-loop-request
invariant-loop-request l = l.told.items ++ replies l.store (drop l.request-index l.requests) ≡ replies l.fn.store l.requests

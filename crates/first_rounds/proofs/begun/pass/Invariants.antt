use Rattle.std.proofs.Common.{◌≡◌, drop}
use Rattle.plain_store.specs.Run.{after}
use Rattle.first_rounds.proofs.begun.pass.Given as goal

abbrev pub invariant-loop-request : goal.invariant-loop-request
invariant-loop-request l = after l.store (drop l.request-index l.requests) ≡ after l.fn.store l.requests

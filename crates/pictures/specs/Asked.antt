-- for private clauses: what a map has under each caller
use Rattle.std.specs.Prelude.{ℕ, Option, option_map}
use Rattle.std.specs.Borrow.{Bor}
use Rattle.std.specs.BTreeMap.{BTreeMap, get}
use Rattle.std.specs.Ordering.{nat_cmp}
use Rattle.requests.specs.declared.request.Request.{Request}

abbrev pub asked_in : BTreeMap ℕ (Bor Request) → ℕ → Option Request
asked_in asked caller = option_map (λ r. r.now) (get nat_cmp asked caller)

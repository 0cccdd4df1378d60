use Rattle.std.proofs.Common.{List, drop}
use Rattle.requests.specs.declared.request.Request.{Request}
use Rattle.order_check.specs.Following.{Follows, IsRest, standing}
use Rattle.order_check.proofs.walk.Walk.follow.Given as goal

abbrev pub invariant-loop-place : goal.invariant-loop-place
invariant-loop-place l =
    let left = drop l.place-index l.order in
    record {
      follows : Follows l.items (standing l.self) left → Follows l.items (standing l.fn.self) l.order;
      rest : (requests : List Request) → IsRest l.items (standing l.fn.self) l.order requests → (later : List Request) × IsRest l.items (standing l.self) left later;
    }

-- The reply to a call is that of the item that answers it.
use Rattle.std.proofs.Common.{◌≡◌, ◌↔◌, ℕ, Bool, false, IsTrue, List, Option, Some, None, sym, subst}
use Rattle.std.proofs.lemmas.Bool.{false≢true}
use Rattle.requests.specs.declared.reply.Reply.{Reply}
use Rattle.interleavings.specs.declared.trace.Item.{Item}
use Rattle.order_check.specs.Following.{IsAnswered}

-- only the recorded reply is the answer, so comparing with it decides
pub answered_by : (items : List Item) (answer : Option ℕ) (index latest : ℕ) (recorded reply : Reply) → answer ≡ Some index → IsAnswered items (Some index) latest recorded → ((r : Reply) → IsAnswered items (Some index) latest r → Some recorded ≡ Some r)
    → (same : Bool) → (IsTrue same ↔ (recorded ≡ reply)) → IsTrue same ↔ IsAnswered items answer latest reply
answered_by items answer index latest recorded reply is answer_fits only same h = (to, from)
  where
    to : IsTrue same → IsAnswered items answer latest reply
    to y = subst (λ a. IsAnswered items a latest reply) (sym is) (subst (λ r. IsAnswered items (Some index) latest r) (h.0 y) answer_fits)

    from : IsAnswered items answer latest reply → IsTrue same
    from t =
        let e = only reply (subst (λ a. IsAnswered items a latest reply) is t) in
        let equal : recorded ≡ reply = cc in
        h.1 equal

pub none_answered : (items : List Item) (answer : Option ℕ) (index latest : ℕ) (reply : Reply) → answer ≡ Some index → ((r : Reply) → IsAnswered items (Some index) latest r → None ≡ Some r) → IsTrue false ↔ IsAnswered items answer latest reply
none_answered items answer index latest reply is none = (λ y. absurd (false≢true y), λ t. let e = none reply (subst (λ a. IsAnswered items a latest reply) is t) in absurd cc)

-- with no reply in the trace, any is the answer
pub unasked : (items : List Item) (answer : Option ℕ) (latest : ℕ) (reply : Reply) → answer ≡ None → (same : Bool) → (IsTrue same ↔ Unit {0}) → IsTrue same ↔ IsAnswered items answer latest reply
unasked items answer latest reply none same h = subst (λ a. IsTrue same ↔ IsAnswered items a latest reply) (sym none) h

-- One more turn of the operator.
use Rattle.std.proofs.Common.{◌≡◌, ℕ, ◌+◌, List, [], ◌∷◌, ◌++◌, length, length-append, refl, sym, ap, ◌∙◌, subst, arith}
use Rattle.requests.specs.declared.request.Request.{Request}
use Rattle.race_log.specs.declared.part.TimedExchange.{TimedExchange}
use Rattle.race_log.specs.Operator.{operator_asks}
use Rattle.store.specs.Callers.{Caller}
use Rattle.racing.specs.Parts.{AsksFrom, HasAsked, IsOperating}
use Rattle.racing.proofs.Standing.{given_more}

asks_more : (replicas n : ℕ) (xs : List TimedExchange) (a : TimedExchange) → AsksFrom replicas n xs → a.request ≡ operator_asks replicas (n + length xs) → AsksFrom replicas n (xs ++ a ∷ [])
asks_more replicas n [] a all is = let e : n + 0 ≡ n = omega arith in (is ∙ ap (operator_asks replicas) e, tt)
asks_more replicas n (x ∷ xs) a all is =
    let e : n + length (x ∷ xs) ≡ (n + 1) + length xs = omega arith in
    (all.0, asks_more replicas (n + 1) xs a all.1 (is ∙ ap (operator_asks replicas) e))

pub operated_first : (shards capacity : ℕ) (k : Caller) (replicas : ℕ) → IsOperating shards capacity k replicas 0 []
operated_first shards capacity k replicas = record { given = tt; many = refl; asks = tt }

pub operated_more : (shards capacity : ℕ) (k l : Caller) (replicas n : ℕ) (r : Request) (xs ys : List TimedExchange) → IsOperating shards capacity k replicas n xs
    → r ≡ operator_asks replicas n → HasAsked shards capacity k l r xs ys → IsOperating shards capacity l replicas (n + 1) ys
operated_more shards capacity k l replicas n r xs ys was is asked =
    let turn : n ≡ 0 + length xs = (let m = was.many in omega arith) in
    subst (IsOperating shards capacity l replicas (n + 1)) (sym asked.longer) (record {
      given = given_more shards capacity k l 0 xs asked.asked was.given (omega arith) asked.replied;
      many = let l = length-append xs (asked.asked ∷ []) in let m = was.many in omega arith;
      asks = asks_more replicas 0 xs asked.asked was.asks (asked.request_is ∙ is ∙ ap (operator_asks replicas) turn);
    })

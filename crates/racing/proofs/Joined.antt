-- The parts of a race, from those that its threads yield.
use Rattle.std.proofs.Common.{◌≡◌, ℕ, ◌+◌, List, [], ◌∷◌, ◌++◌, length, length-append, map, sym, ap, ◌∙◌, subst, arith}
use Rattle.std.specs.List.{All}
use Rattle.requests.specs.declared.request.Request.{Request}
use Rattle.race_log.specs.declared.part.Part.{Part}
use Rattle.race_log.specs.declared.part.TimedExchange.{TimedExchange}
use Rattle.store.specs.Callers.{Caller}
use Rattle.racing.specs.declared.threads.PartOf.{PartOf}
use Rattle.race_log.specs.declared.spec.RaceSpec.{RaceSpec}
use Rattle.race_log.specs.RaceSet.{creates_set}
use Rattle.racing.specs.Parts.{AreGiven, AreParts, CountFrom, HasAsked, HasAskedOnce, IsPartOf, caller_of, operators_in}
use Rattle.racing.proofs.Rows.{count_end, count_more, long_map}

pub same_spec : {S : Type 0} (p q : PartOf S) → p ≡ q → p.spec ≡ q.spec
same_spec {S} p q is = ap (λ (x : PartOf S). x.spec) is

pub same_number : {S : Type 0} (p q : PartOf S) → p ≡ q → p.number ≡ q.number
same_number {S} p q is = ap (λ (x : PartOf S). x.number) is

-- a request that was sent first was sent once
pub asked_once : (shards capacity : ℕ) (k l : Caller) (r : Request) (xs ys : List TimedExchange) → xs ≡ [] → HasAsked shards capacity k l r xs ys
    → HasAskedOnce shards capacity r ys
asked_once shards capacity k l r xs ys none asked =
    let only : ys ≡ asked.asked ∷ [] = asked.longer ∙ ap (λ zs. zs ++ asked.asked ∷ []) none in
    record {
      known = l;
      asked = asked.asked;
      only = only;
      request_is = asked.request_is;
      given = subst (AreGiven shards capacity l 0) (sym only) (omega arith, (asked.replied).answered, tt);
    }

pub creator_is : (shards capacity : ℕ) (spec : RaceSpec) (p : Part) → p.caller ≡ spec.controllers + 1 → HasAskedOnce shards capacity (creates_set spec.replicas) p.exchanges.items → IsPartOf shards capacity spec p
creator_is shards capacity spec p number asked = record {
  controller = λ low. absurd (let n = number in omega arith);
  kubelet = λ is. absurd (let n = number in omega arith);
  creator = λ is. asked;
  operator = λ is. absurd (let n = number in omega arith);
}

pub joined : (shards capacity : ℕ) (spec : RaceSpec) (ps all : List Part) (p : Part) (operators : List ℕ) → All (IsPartOf shards capacity spec) all → CountFrom 0 (map caller_of ps)
    → length ps ≡ spec.controllers + 1 → p.caller ≡ spec.controllers + 1 → operators ≡ operators_in spec → map caller_of all ≡ map caller_of (ps ++ p ∷ []) ++ operators
    → AreParts shards capacity spec all
joined shards capacity spec ps all p operators each count long number who is =
    let longer : length (ps ++ p ∷ []) ≡ spec.controllers + 2 = let l = length-append ps (p ∷ []) in let n = long in omega arith in
    let callers : map caller_of all ≡ map caller_of (ps ++ p ∷ []) ++ operators_in spec = is ∙ ap (λ l. map caller_of (ps ++ p ∷ []) ++ l) who in
    record {
      each = each;
      numbered = subst (CountFrom 0) (sym callers)
          (count_end 0 (map caller_of (ps ++ p ∷ [])) spec.operator (spec.controllers + 2)
          (count_more caller_of 0 ps p count (let l = long in let n = number in omega arith))
          (let l = longer in let m = long_map caller_of (ps ++ p ∷ []) in omega arith));
      many = sym (long_map caller_of all) ∙ ap length callers ∙ length-append (map caller_of (ps ++ p ∷ [])) (operators_in spec)
          ∙ ap (λ k. k + length (operators_in spec)) (long_map caller_of (ps ++ p ∷ []) ∙ longer);
    }

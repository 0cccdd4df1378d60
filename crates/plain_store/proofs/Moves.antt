-- A step leaves the store as it was, or makes one write, or one compaction.
use Rattle.std.proofs.Common.{◌≡◌, ◌≢◌, ◌≤◌, ◌+◌, ◌==◌, ℕ, Bool, true, false, cond, Option, Some, None, refl, arith}
use Rattle.std.specs.FinMap as map
use Rattle.std.proofs.lemmas.Bool.Decides.{nat_tests}
use Rattle.objects.specs.declared.key.Key.{Key}
use Rattle.objects.specs.declared.object.Object.{Object}
use Rattle.requests.specs.declared.request.Request.{Request}
use Rattle.requests.specs.declared.reply.Reply.{Reply}
use Rattle.requests.specs.declared.reply.Reply.TheVariants.{Refused}
use Rattle.requests.specs.declared.reply.Reason.{Reason}
use Rattle.requests.specs.declared.reply.Reason.TheVariants.{StoreFull}
use Rattle.requests.specs.declared.verdict.Verdict.{Verdict}
use Rattle.requests.specs.declared.verdict.Verdict.TheVariants.{Refuse, Same, Write}
use Rattle.requests.specs.Change.{Change, accepted, kept, stamp}
use Rattle.requests.specs.Verdict.{verdict}
use Rattle.plain_store.specs.Route.{Route, compacts, gets, lists, lists_at, route, writes}
use Rattle.plain_store.specs.Store.{Store, carried_out, compacted_to, denied, routed, step, with_change, with_floor, with_next}
use Rattle.plain_store.proofs.Denials.{readable}

pub data Moves (s t : Store) : Type 0 where
  idle : t ≡ s → Moves s t
  wrote : (k : Key) (now : Option Object) → s.counter ≢ s.capacity → t ≡ with_next s k now → Moves s t
  raised : (n : ℕ) → s.floor ≤ n → n ≤ s.counter → t ≡ with_floor s n → Moves s t

moves-write : (s : Store) (k : Key) (c : Change) (full : Bool) → (s.counter == s.capacity) ≡ full
    → let end : Store × Reply = cond full (s, Refused StoreFull) (with_change s k c, accepted c (stamp c (s.counter + 1))) in Moves s end.0
moves-write s k c true is = idle refl
moves-write s k c false is = wrote k (kept c (s.counter + 1)) (grind (arith, nat_tests)) refl

moves-verdict : (s : Store) (k : Key) (v : Verdict) → Moves s (carried_out s k v).0
moves-verdict s k (Refuse reason) = idle refl
moves-verdict s k (Same o) = idle refl
moves-verdict s k (Write c) = moves-write s k c (s.counter == s.capacity) refl

moves-compaction : (s : Store) (n : ℕ) (denial : Option Reason) → denied s.floor s.counter n ≡ denial → Moves s (compacted_to s n denial).0
moves-compaction s n (Some reason) is = idle refl
moves-compaction s n None is = let both = readable s.floor s.counter n is in raised n both.0 both.1 refl

pub moves : (s : Store) (r : Request) → Moves s (step s r).0
unfolding step
moves s r = by (route r)
  where
    by : (x : Route) → Moves s (routed s r x).0
    by (gets k) = idle refl
    by (lists kind namespace) = idle refl
    by (writes k) = moves-verdict s k (verdict r (map.get s.objects k))
    by (lists_at kind namespace n) = idle refl
    by (compacts n) = moves-compaction s n (denied s.floor s.counter n) refl

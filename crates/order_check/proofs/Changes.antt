-- The reply to a write or a compaction is never one that a get or a list has.
use Rattle.std.proofs.Common.{◌≡◌, ◌+◌, ◌==◌, ℕ, Bool, true, false, cond, Option, Some, None, refl}
use Rattle.std.specs.FinMap as map
use Rattle.objects.specs.declared.key.Key.{Key}
use Rattle.requests.specs.Change.{Change, accepted, creates, updates, marks, removes, stamp}
use Rattle.requests.specs.Verdict.{verdict}
use Rattle.requests.specs.declared.reply.Reason.{Reason}
use Rattle.requests.specs.declared.reply.Reason.TheVariants.{StoreFull}
use Rattle.requests.specs.declared.reply.Reply.{Reply}
use Rattle.requests.specs.declared.reply.Reply.TheVariants.{Refused}
use Rattle.requests.specs.declared.request.Request.{Request}
use Rattle.requests.specs.declared.request.Request.TheVariants as request
use Rattle.requests.specs.declared.request.Request.TheVariants.{Create, Get, Update, UpdateStatus, Delete, Compact}
use Rattle.requests.specs.declared.verdict.Verdict.{Verdict}
use Rattle.requests.specs.declared.verdict.Verdict.TheVariants.{Refuse, Same, Write}
use Rattle.plain_store.specs.Route.{is_read, route}
use Rattle.plain_store.specs.Store.{Store, carried_out, compacted_to, denied, step, with_change}
use Rattle.order_check.specs.Recorded.{is_to_read}

unless_full : (s : Store) (k : Key) (c : Change) (full : Bool)
    → let end : Store × Reply = cond full (s, Refused StoreFull) (with_change s k c, accepted c (stamp c (s.counter + 1))) in is_to_read end.1 ≡ false
unless_full s k c true = refl
unless_full s k (creates o) false = refl
unless_full s k (updates o) false = refl
unless_full s k (marks o) false = refl
unless_full s k (removes o) false = refl

by_verdict : (s : Store) (k : Key) (v : Verdict) → is_to_read (carried_out s k v).1 ≡ false
by_verdict s k (Refuse reason) = refl
by_verdict s k (Same o) = refl
by_verdict s k (Write c) = unless_full s k c (s.counter == s.capacity)

by_denial : (s : Store) (n : ℕ) (denial : Option Reason) → is_to_read (compacted_to s n denial).1 ≡ false
by_denial s n None = refl
by_denial s n (Some reason) = refl

pub change_is_no_read : (s : Store) (r : Request) → is_read r ≡ false → is_to_read (step s r).1 ≡ false
unfolding step route
change_is_no_read s (Create d) is = by_verdict s d.object.key (verdict (Create d) (map.get s.objects d.object.key))
change_is_no_read s (Get k) is = absurd cc
change_is_no_read s (request.List kind namespace exact) is = absurd cc
change_is_no_read s (Update d) is = by_verdict s d.object.key (verdict (Update d) (map.get s.objects d.object.key))
change_is_no_read s (UpdateStatus d) is = by_verdict s d.object.key (verdict (UpdateStatus d) (map.get s.objects d.object.key))
change_is_no_read s (Delete k uid version at) is = by_verdict s k (verdict (Delete k uid version at) (map.get s.objects k))
change_is_no_read s (Compact to) is = by_denial s to (denied s.floor s.counter to)

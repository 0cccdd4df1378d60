-- What a write does to the records of its shard.
use Rattle.std.proofs.Common.{◌≡◌, ℕ, Option, Some, None, IfSome, IfNone, refl, ap, ◌∙◌, subst, inl, inr}
use Rattle.requests.specs.declared.request.Request.{Request}
use Rattle.requests.specs.declared.reply.Reply.{Reply}
use Rattle.requests.specs.declared.verdict.Verdict.{Verdict}
use Rattle.requests.specs.declared.verdict.Verdict.TheVariants.{Refuse, Same, Write}
use Rattle.requests.specs.Change.{Change, version_of}
use Rattle.versions.specs.Records.{Records}
use Rattle.versions.specs.Shard.{Shard, pushed}
use Rattle.line.specs.declared.view.NotedView.{NotedView}
use Rattle.store.specs.declared.writing.Writing.{Writing}
use Rattle.store.specs.Tickets.{Ticket}
use Rattle.store.specs.Views.{IsOutcome, Unwritten, ticket_by}
use Rattle.store.proofs.Writes.{Pushes}

module _ (shards capacity : ℕ) where
  pub pushed_outcome : (b p : NotedView Writing) (s u : Shard) (request : Request) (change : Change) (since : ℕ) (o : Option (ℕ × Reply)) → Pushes shards capacity b request change o p
      → IfSome o (λ r. u ≡ pushed s r.0 (version_of change r.0)) → IfNone o (u ≡ s) → IsOutcome capacity s.records 0 (Write change) (ticket_by capacity request since o) u.records
  pushed_outcome b p s u request change since (Some r) h more same = inl (ap Some h.0.1, ap (λ (x : Shard). x.records) more)
  pushed_outcome b p s u request change since None h more same = inr (refl, refl, ap (λ (x : Shard). x.records) same)

  pub pushed_floor : (s u : Shard) (change : Change) (o : Option (ℕ × Reply)) → IfSome o (λ r. u ≡ pushed s r.0 (version_of change r.0)) → IfNone o (u ≡ s) → u.floor ≡ s.floor
  pushed_floor s u change (Some r) more same = ap (λ (x : Shard). x.floor) more
  pushed_floor s u change None more same = ap (λ (x : Shard). x.floor) same

  pub unwritten_outcome : (records : Records) (saw : ℕ) (v : Verdict) (t : Ticket) (reply : Reply) → t.reply ≡ Some reply → t.saw ≡ saw → Unwritten v reply → IsOutcome capacity records saw v t records
  unwritten_outcome records saw (Refuse reason) t reply is of_ un = (is ∙ ap Some un, of_, refl)
  unwritten_outcome records saw (Same o) t reply is of_ un = (is ∙ ap Some un, of_, refl)
  unwritten_outcome records saw (Write change) t reply is of_ un = absurd un

  -- of a verdict v that was found to be w
  pub outcome_of : (old new : Records) (saw : ℕ) (v w : Verdict) (t : Ticket) → v ≡ w → IsOutcome capacity old saw v t new → IsOutcome capacity old saw w t new
  outcome_of old new saw v w t is h = subst (λ x. IsOutcome capacity old saw x t new) is h

-- A write that is carried out by its judgment is a step.
use Rattle.std.proofs.Common.{◌≡◌, ◌+◌, ◌==◌, Bool, true, false, cond, Option, Some, None, IfSome, refl, sym, ap, ◌∙◌}
use Rattle.std.specs.FinMap as map
use Rattle.objects.specs.declared.key.Key.{Key}
use Rattle.objects.specs.declared.object.Object.{Object}
use Rattle.requests.specs.Change.{accepted, creates, updates, marks, removes}
use Rattle.requests.specs.ChangeKinds.{change_by, stored_by}
use Rattle.requests.specs.declared.change_kind.ChangeKind.{ChangeKind}
use Rattle.requests.specs.declared.change_kind.ChangeKind.TheVariants.{Creation, Update as Updating, Mark, Removal}
use Rattle.requests.specs.declared.reply.Reason.TheVariants.{StoreFull}
use Rattle.requests.specs.declared.reply.Reply.TheVariants.{Refused}
use Rattle.requests.specs.declared.verdict.Judgment.TheVariants as judged
use Rattle.requests.specs.Judgments.{judged_at}
use Rattle.requests.specs.Keys.{key_named}
use Rattle.requests.specs.Verdict.{verdict}
use Rattle.requests.specs.declared.reply.Reply.{Reply}
use Rattle.requests.specs.declared.request.Request.{Request}
use Rattle.requests.specs.declared.verdict.Judgment.{Judgment}
use Rattle.requests.specs.declared.verdict.Verdict.{Verdict}
use Rattle.requests.specs.declared.verdict.Verdict.TheVariants.{Refuse, Same, Write}
use Rattle.plain_store.specs.Judged.{IsJudged, carried_judged, judged_object}
use Rattle.plain_store.specs.PrintedReplies.{reply_object}
use Rattle.plain_store.specs.Reached.{IsReached}
use Rattle.plain_store.specs.Store.{Store, carried_out, step, with_next}
use Rattle.plain_store.proofs.Runs.{reached_by_a_step, still_reached}
use Rattle.plain_store.proofs.Steps.{by_verdict}

by_judgment : (s : Store) (k : Key) (v : Verdict) → carried_judged s k (judged_at (s.counter + 1) v) ≡ carried_out s k v
by_judgment s k (Refuse reason) = refl
by_judgment s k (Same o) = refl
by_judgment s k (Write (creates o)) = refl
by_judgment s k (Write (updates o)) = refl
by_judgment s k (Write (marks o)) = refl
by_judgment s k (Write (removes o)) = refl

pub judged_step : (s : Store) (r : Request) (k : Key) (j : Judgment Object) → IsJudged s r k j → carried_judged s k j ≡ step s r
judged_step s r k j is = ap (carried_judged s k) is.judged ∙ by_judgment s k (verdict r (map.get s.objects k)) ∙ by_verdict s r k (map.get s.objects k) (verdict r (map.get s.objects k)) is.write is.named refl refl

pub judged_reached : (s : Store) (r : Request) (k : Key) (j : Judgment Object) → IsJudged s r k j → IsReached s → IsReached (carried_judged s k j).0
judged_reached s r k j is reached = still_reached (step s r).0 _ (ap (λ (e : Store × Reply). e.0) (judged_step s r k j is)) (reached_by_a_step s r reached)

-- what is found under the key of a request has that key
pub found_named : (r : Request) (k : Key) (current : Option Object) → key_named r ≡ Some k → IfSome current (λ o. o.key ≡ k) → IfSome current (λ o. Some o.key ≡ key_named r)
found_named r k None named filed = tt
found_named r k (Some o) named filed = ap Some filed ∙ sym named

object_by : (s : Store) (k : Key) (kind : ChangeKind) (o : Object) (b : Bool)
    → IfSome (reply_object (cond {A = Store × Reply} b (s, Refused StoreFull) (with_next s k (stored_by kind o), accepted (change_by kind o) o)).1) (λ p. Some o ≡ Some p)
object_by s k kind o true = tt
object_by s k Creation o false = refl
object_by s k Updating o false = refl
object_by s k Mark o false = refl
object_by s k Removal o false = refl

-- if the reply has an object, it is that of the judgment
pub object_kept : (s : Store) (k : Key) (j : Judgment Object) (reply : Reply) → reply ≡ (carried_judged s k j).1 → IfSome (reply_object reply) (λ o. judged_object j ≡ Some o)
object_kept s k (judged.Refuse reason) reply is = rw is tt
object_kept s k (judged.Same o) reply is = rw is refl
object_kept s k (judged.Write kind o) reply is = rw is (object_by s k kind o (s.counter == s.capacity))

-- A write by its judgment, whose object is as the next number leaves it.
use Rattle.std.specs.Prelude.{◌≡◌, ◌+◌, ◌==◌, true, Option, Some, None, if◌then◌else◌}
use Rattle.std.specs.FinMap as map
use Rattle.objects.specs.declared.key.Key.{Key}
use Rattle.objects.specs.declared.object.Object.{Object}
use Rattle.requests.specs.Change.{accepted}
use Rattle.requests.specs.ChangeKinds.{change_by, stored_by}
use Rattle.requests.specs.Judgments.{judged_at}
use Rattle.requests.specs.Keys.{key_named}
use Rattle.requests.specs.Verdict.{is_write, verdict}
use Rattle.requests.specs.declared.reply.Reason.TheVariants.{StoreFull}
use Rattle.requests.specs.declared.reply.Reply.{Reply}
use Rattle.requests.specs.declared.reply.Reply.TheVariants.{Refused, Unchanged}
use Rattle.requests.specs.declared.request.Request.{Request}
use Rattle.requests.specs.declared.verdict.Judgment.{Judgment}
use Rattle.requests.specs.declared.verdict.Judgment.TheVariants.{Refuse, Same, Write}
use Rattle.plain_store.specs.Store.{Store, with_next}

-- this is what the request of that key does, given what now has the key
pub record IsJudged (s : Store) (r : Request) (k : Key) (j : Judgment Object) : Type 0 where
  pub write : is_write r ≡ true
  pub named : key_named r ≡ Some k
  pub judged : j ≡ judged_at (s.counter + 1) (verdict r (map.get s.objects k))

abbrev pub carried_judged : Store → Key → Judgment Object → Store × Reply
carried_judged s k (Refuse reason) = (s, Refused reason)
carried_judged s k (Same o) = (s, Unchanged o)
carried_judged s k (Write kind o) = if s.counter == s.capacity then (s, Refused StoreFull) else (with_next s k (stored_by kind o), accepted (change_by kind o) o)

-- the object that a judgment has
abbrev pub judged_object : Judgment Object → Option Object
judged_object (Refuse reason) = None
judged_object (Same o) = Some o
judged_object (Write kind o) = Some o

use Rattle.std.proofs.Common.{◌≡◌, ◌≤◌, List, [], drop}
use Rattle.requests.specs.declared.reply.Reply.{Reply}
use Rattle.race_log.specs.LivePods.{Knows}
use Rattle.race_log.specs.Twice.{replies_in_order}
use Rattle.race_log.proofs.twice.repeats.Given as goal

-- the replies so far, and the rest
abbrev pub invariant-loop-stamp : goal.invariant-loop-stamp
invariant-loop-stamp l = record {
  earlier : List Reply;
  known : Knows l.live earlier;
  whole : replies_in_order l.items (drop l.stamp-index l.order) earlier ≡ replies_in_order l.items l.order [];
  counted : l.live.again ≤ l.stamp-index;
}

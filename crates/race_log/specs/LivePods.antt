-- ---- used only by proofs: what is known of the objects that live
use Rattle.std.specs.Prelude.{◌≡◌, List}
use Rattle.std.specs.BTreeSet.{contains}
use Rattle.objects.specs.Key.{KeyParts, key_cmp}
use Rattle.requests.specs.declared.reply.Reply.{Reply}
use Rattle.race_log.specs.declared.twice.LivePods.{LivePods}
use Rattle.race_log.specs.Twice.{is_alive, repeats}

-- by these replies, the newest first, the set has the keys that live, and the number says how many creates were repeats
pub record Knows (l : LivePods) (earlier : List Reply) : Type 0 where
  pub keys : (key : KeyParts) → contains key_cmp l.keys key ≡ is_alive key earlier
  pub again : l.again ≡ repeats earlier

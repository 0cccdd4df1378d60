-- How often a pod was created while another one of that name lived: accepted creates that follow, in an order, another
-- accepted create of the name with no accepted removal between.
use Rattle.std.specs.Prelude.{ℕ, ◌+◌, Bool, true, false, ◌&&◌, ◌||◌, not, List, [], ◌∷◌, Option, Some, None, if◌then◌else◌}
use Rattle.std.specs.Ordering.{eq_by_cmp}
use Rattle.std.specs.List.{slice_get}
use Rattle.objects.specs.Key.{KeyParts, key_cmp}
use Rattle.objects.specs.declared.kind.Kind.{Kind}
use Rattle.objects.specs.declared.kind.Kind.TheVariants.{Pod}
use Rattle.requests.specs.declared.reply.Reply.{Reply}
use Rattle.requests.specs.declared.reply.Reply.TheVariants.{Created, Removed}
use Rattle.interleavings.specs.declared.trace.Item.{Item}
use Rattle.interleavings.specs.declared.trace.Item.TheVariants as item
use Rattle.race_log.specs.declared.stamp.Stamp.{Stamp}

abbrev pub reply_of : Option Item → Option Reply
reply_of (Some (item.Reply place caller reply)) = Some reply
reply_of _ = None

-- the reply at an index
abbrev pub reply_at : List Item → ℕ → Option Reply
reply_at items place = reply_of (slice_get items place)

abbrev pub with_next : Option Reply → List Reply → List Reply
with_next None earlier = earlier
with_next (Some reply) earlier = reply ∷ earlier

-- the replies of these stamps after earlier ones: the newest first
abbrev pub replies_in_order : List Item → List Stamp → List Reply → List Reply
replies_in_order items [] earlier = earlier
replies_in_order items (s ∷ later) earlier = replies_in_order items later (with_next (reply_at items s.reply) earlier)

-- ---- by replies, the newest first

abbrev pub is_alive_after : Reply → KeyParts → Bool → Bool
is_alive_after (Created o) key was = eq_by_cmp key_cmp key o.key || was
is_alive_after (Removed o) key was = not (eq_by_cmp key_cmp key o.key) && was
is_alive_after _ key was = was

-- an object of that key was created and not removed since
abbrev pub is_alive : KeyParts → List Reply → Bool
is_alive key [] = false
is_alive key (reply ∷ earlier) = is_alive_after reply key (is_alive key earlier)

abbrev pub is_pod : Kind → Bool
is_pod Pod = true
is_pod _ = false

-- 1 if it creates a pod while another one of that name lives
abbrev pub repeat_by : Reply → List Reply → ℕ
repeat_by (Created o) earlier = if is_pod o.key.kind && is_alive o.key earlier then 1 else 0
repeat_by _ earlier = 0

-- how many of them do
abbrev pub repeats : List Reply → ℕ
repeats [] = 0
repeats (reply ∷ earlier) = repeat_by reply earlier + repeats earlier

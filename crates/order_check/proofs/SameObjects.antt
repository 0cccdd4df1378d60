-- Objects that are the same by their trees are equal.
use Rattle.std.proofs.Common.{◌≡◌, true, ap}
use Rattle.objects.specs.declared.object.Object.{Object}
use Rattle.requests.specs.declared.reply.Reply.{Reply}
use Rattle.requests.specs.declared.reply.Reply.TheVariants.{Created, Found, Listed, Updated, Unchanged, Marked, Removed, Compacted, Refused}
use Rattle.requests.specs.Same.{same_object}
use Rattle.requests.proofs.Sameness.{replies_equal}

abbrev object_or : Object → Reply → Object
object_or p (Created o) = p
object_or p (Found o) = o
object_or p (Listed os n) = p
object_or p (Updated o) = p
object_or p (Unchanged o) = p
object_or p (Marked o) = p
object_or p (Removed o) = p
object_or p (Compacted n) = p
object_or p (Refused r) = p

pub objects_equal : (o p : Object) → same_object o p ≡ true → o ≡ p
objects_equal o p same = ap (object_or o) (replies_equal (Found o) (Found p) same)

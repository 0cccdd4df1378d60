-- The store that a race leaves, by the lists that are looked at in its end, as compact JSON with keys in byte order.
use Rattle.std.specs.Prelude.{ℕ, List, [], ◌∷◌, ◌++◌, codes}
use Rattle.serde_json.specs.Data.{Data, number, unsigned, array, Items, no_items, item, object, no_members, member}
use Rattle.objects.specs.declared.object.Object.{Object}
use Rattle.objects.specs.Text.{printed}
use Rattle.requests.specs.declared.reply.Reply.{Reply}
use Rattle.requests.specs.declared.reply.Reply.TheVariants.{Created, Found, Listed, Updated, Unchanged, Marked, Removed, Compacted, Refused}

-- ---- what lists show

abbrev pub listed_in : Reply → List Object
listed_in (Listed os revision) = os
listed_in (Created o) = []
listed_in (Found o) = []
listed_in (Updated o) = []
listed_in (Unchanged o) = []
listed_in (Marked o) = []
listed_in (Removed o) = []
listed_in (Compacted revision) = []
listed_in (Refused reason) = []

-- of one list after another
abbrev pub objects_in : List Reply → List Object
objects_in [] = []
objects_in (r ∷ replies) = listed_in r ++ objects_in replies

abbrev pub revision_of : Reply → ℕ
revision_of (Listed os revision) = revision
revision_of (Created o) = 0
revision_of (Found o) = 0
revision_of (Updated o) = 0
revision_of (Unchanged o) = 0
revision_of (Marked o) = 0
revision_of (Removed o) = 0
revision_of (Compacted revision) = 0
revision_of (Refused reason) = 0

-- That of the first list: all are of one store. If nothing is looked at, nothing was created.
abbrev pub revision_in : List Reply → ℕ
revision_in [] = 0
revision_in (r ∷ replies) = revision_of r

-- ---- one store

abbrev pub store_items : List Object → Items
store_items [] = no_items
store_items (o ∷ os) = item (printed o) (store_items os)

-- `{"revision":V,"store":[OBJECT,..]}`
abbrev pub store_data : List Reply → Data
store_data shown =
    object (member (codes "revision") (number (unsigned (revision_in shown))) (member (codes "store") (array (store_items (objects_in shown))) no_members))

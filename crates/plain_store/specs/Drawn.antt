-- The numbers that the replies of a run say were allocated.
use Rattle.std.specs.Prelude.{◌≡◌, ◌<◌, ◌+◌, ℕ, List, [], ◌∷◌, Option, Some, None, ⊤}
use Rattle.requests.specs.declared.reply.Reply.{Reply}
use Rattle.requests.specs.declared.reply.Reply.TheVariants.{Created, Found, Listed, Updated, Unchanged, Marked, Removed, Compacted, Refused}

-- the resource version of what the reply says was written or removed
abbrev pub version_drawn : Reply → Option ℕ
version_drawn (Created o) = Some o.meta.revision
version_drawn (Updated o) = Some o.meta.revision
version_drawn (Marked o) = Some o.meta.revision
version_drawn (Removed o) = Some o.meta.revision
version_drawn (Found o) = None
version_drawn (Listed os revision) = None
version_drawn (Unchanged o) = None
version_drawn (Compacted revision) = None
version_drawn (Refused reason) = None

-- the UID of what the reply says was created
abbrev pub uid_given : Reply → Option ℕ
uid_given (Created o) = Some o.meta.uid
uid_given (Updated o) = None
uid_given (Marked o) = None
uid_given (Removed o) = None
uid_given (Found o) = None
uid_given (Listed os revision) = None
uid_given (Unchanged o) = None
uid_given (Compacted revision) = None
uid_given (Refused reason) = None

abbrev pub among : Option ℕ → List ℕ → List ℕ
among None numbers = numbers
among (Some n) numbers = n ∷ numbers

abbrev pub versions_drawn : List Reply → List ℕ
versions_drawn [] = []
versions_drawn (r ∷ rs) = among (version_drawn r) (versions_drawn rs)

abbrev pub uids_given : List Reply → List ℕ
uids_given [] = []
uids_given (r ∷ rs) = among (uid_given r) (uids_given rs)

-- these are n + 1, n + 2 and so on
abbrev pub AreNext : ℕ → List ℕ → Type 0
AreNext n [] = ⊤
AreNext n (m ∷ ms) = (m ≡ n + 1) × AreNext m ms

-- the first is above n, and each above the one before it, so none occurs twice
abbrev pub AreRising : ℕ → List ℕ → Type 0
AreRising n [] = ⊤
AreRising n (m ∷ ms) = (n < m) × AreRising m ms

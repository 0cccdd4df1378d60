-- Why a write is refused over what now has its key, before any object is read.
use Rattle.std.specs.Prelude.{◌≡◌, ℕ, Bool, true, is_some, List, Option, Some, None, if◌then◌else◌}
use Rattle.objects.specs.declared.object.Object.{Object}
use Rattle.requests.specs.declared.reply.Reason.{Reason}
use Rattle.requests.specs.declared.reply.Reason.TheVariants.{NotFound, AlreadyExists, Conflict, Invalid}
use Rattle.requests.specs.Verdict.{conflicts, nonempty}

-- A create may not name a resource version, and its name has to be free.
abbrev pub create_denied : Option (List ℕ) → Bool → Option Reason
create_denied version is_there =
    if is_some (nonempty version) then Some Invalid
    else if is_there then Some AlreadyExists
    else None

-- there is no object, or the resource version or the UID that was given is not its own
abbrev pub IsDenied : Option (List ℕ) → Option (List ℕ) → Option Object → Reason → Type 0
IsDenied version uid None reason = reason ≡ NotFound
IsDenied version uid (Some o) reason = (reason ≡ Conflict) × (conflicts version uid o ≡ true)

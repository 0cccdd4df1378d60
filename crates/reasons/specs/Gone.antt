-- Claims that are deleted once some owners are gone (Kubernetes documentation, "Garbage Collection").
use Rattle.std.specs.Prelude.{ℕ, ◌==◌, Bool, true, false, ◌&&◌, ◌||◌, List}
use Rattle.std.specs.List.{list_any}
use Rattle.std.specs.Option.{option_map_or}
use Rattle.serde_json.specs.Data.{Data, Items, no_items, item}
use Rattle.objects.specs.declared.object.Object.{Object}
use Rattle.objects.specs.Metadata.{owners_of}
use Rattle.collector.specs.Collectable.{owner_number}
use Rattle.sets.specs.declared.action.Action.{Action}
use Rattle.sets.specs.declared.action.Action.TheVariants as action
use Rattle.reasons.specs.declared.gone.Gone.{Gone}
use Rattle.reasons.specs.declared.gone.Gone.TheVariants.{Owner, DeletedBy}

-- the action deletes the pod with the UID of that number
abbrev pub deletes : ℕ → Action → Bool
deletes uid (action.CreateClaim o) = false
deletes uid (action.CreatePod o) = false
deletes uid (action.DeletePod name deleted) = deleted == uid
deletes uid (action.UpdateClaim o) = false
deletes uid (action.WriteRevision o) = false
deletes uid (action.DeleteRevision name deleted version) = false
deletes uid (action.WriteStatus o) = false
deletes uid (action.Wait cause name) = false

abbrev pub is_uid : ℕ → ℕ → Bool
is_uid number uid = uid == number

abbrev pub is_deleted : List Action → ℕ → Bool
is_deleted actions uid = list_any (deletes uid) actions

-- the owner reference names one of these owners, by the number of its UID
abbrev pub is_among : (ℕ → Bool) → Data → Bool
is_among gone owner = option_map_or gone (owner_number owner) false

-- or one whose UID no store gives, which counts as gone
abbrev pub is_gone_with : (ℕ → Bool) → Data → Bool
is_gone_with gone owner = option_map_or gone (owner_number owner) true

abbrev pub any_among : (ℕ → Bool) → Items → Bool
any_among gone no_items = false
any_among gone (item d ds) = is_among gone d || any_among gone ds

abbrev pub all_gone_with : (ℕ → Bool) → Items → Bool
all_gone_with gone no_items = true
all_gone_with gone (item d ds) = is_gone_with gone d && all_gone_with gone ds

-- one of these owners owns the claim, and nobody else does
abbrev pub is_deleted_with : (ℕ → Bool) → Object → Bool
is_deleted_with gone claim = any_among gone (owners_of claim.body) && all_gone_with gone (owners_of claim.body)

-- ---- for private clauses
abbrev pub is_gone : Gone → ℕ → Bool
is_gone (Owner number) = is_uid number
is_gone (DeletedBy actions) = is_deleted actions.now

-- What a status request changes of an object (Kubernetes API conventions, "Spec and Status").
use Rattle.std.specs.Prelude.{◌≡◌, ◌≢◌, ℕ, List, codes, IsSome}
use Rattle.serde_json.specs.Data.{Data}
use Rattle.serde_json.specs.Find.{as_object}
use Rattle.objects.specs.declared.object.Object.{Object}
use Rattle.objects.specs.Status.{member_of}

-- the body is a JSON object, as the body of each `Object` is (`IsBody` of `objects`)
abbrev pub HasMembers : Data → Type 0
HasMembers body = IsSome (as_object body)

-- the objects differ in their resource version and their status alone
pub record DifferInStatus (before after : Object) : Type 0 where
  pub key : after.key ≡ before.key
  pub uid : after.meta.uid ≡ before.meta.uid
  pub generation : after.meta.generation ≡ before.meta.generation
  pub deletion : after.meta.deletion ≡ before.meta.deletion
  pub members : (name : List ℕ) → name ≢ codes "status" → member_of name after.body ≡ member_of name before.body

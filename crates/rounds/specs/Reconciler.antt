-- What a controller is made of (Kubernetes, "Controllers": each reconciles what is there with what one object
-- specifies).
use Rattle.std.specs.Prelude.{ℕ, List}
use Rattle.objects.specs.declared.key.Key.{Key}
use Rattle.objects.specs.declared.object.Object.{Object}
use Rattle.requests.specs.declared.request.Request.{Request}

pub record Reconciler : Type 0 where
  -- the StatefulSet that it works for
  pub set : Key
  -- the writes that bring what was listed nearer to what the set specifies; none if that can't be planned
  pub plan : (set : Object) (revisions pods claims : List Object) → List Request
  -- the deletes of claims that no longer have an owner, by lists of all that may own one and the least resource version
  -- of these lists
  pub collect : (claims : List Object) (owners : List (List Object)) (listed_at : ℕ) → List Request

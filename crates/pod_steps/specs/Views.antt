-- The pods of a set's namespace, and what is read of them.
use Rattle.std.specs.Prelude.{◌≡◌, ℕ, ◌&&◌, bytes_eq, List, [], ◌∷◌, Option, filter, find, IfSome, IfNone, ⊤}
use Rattle.objects.specs.declared.kind.Kind.TheVariants as kinds
use Rattle.objects.specs.declared.object.Object.{Object}
use Rattle.objects.specs.PodNames.{IsPodName}
use Rattle.set_views.specs.declared.pod.PodView.{PodView}
use Rattle.set_views.specs.Firsts.{first_of_each}
use Rattle.set_views.specs.Pod.{split_name_of, pod_parts, pod_with}
use Rattle.set_views.specs.Set.{SetParts}
use Rattle.set_views.specs.Predicates.{in_namespace}

-- the pods of the set's namespace among these objects; of several with one name the first counts
abbrev pub listed_pods : SetParts → List Object → List Object
listed_pods set os = first_of_each (filter (in_namespace set kinds.Pod) os)

-- the pod of that name among these objects
abbrev pub listed_pod : SetParts → List Object → List ℕ → Option Object
listed_pod set os name = find (λ o. in_namespace set kinds.Pod o && bytes_eq o.key.name name) os

-- what is read of a pod; its name is split into the set and the ordinal that it is made of, if there are any
pub record IsViewOf (o : Object) (view : PodView) : Type 0 where
  pub parts : pod_parts view ≡ pod_with (split_name_of view) o
  pub set_pod : IfSome view.split_name (λ split. IsPodName o.key.name split.0.now split.1)
  pub no_set_pod : IfNone view.split_name ((set : List ℕ) (ordinal : ℕ) → IsPodName o.key.name set ordinal → ⊥)

-- each object's view, in their order
abbrev pub AreViews : List Object → List PodView → Type 0
AreViews [] [] = ⊤
AreViews [] (view ∷ views) = ⊥
AreViews (o ∷ os) [] = ⊥
AreViews (o ∷ os) (view ∷ views) = IsViewOf o view × AreViews os views

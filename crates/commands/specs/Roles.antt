-- How a picture, and any other account of a run, names the callers of a cluster, before their numbers.
use Rattle.std.specs.Prelude.{ℕ, List, [], ◌∷◌, ◌++◌, Option, Some, None, codes, decimal, if◌then◌else◌, slice_get}
use Rattle.std.specs.List.{list_any}
use Rattle.std.specs.BTreeMap.{is_at}
use Rattle.std.specs.Ordering.{nat_cmp}
use Rattle.history.specs.Named.{with_named}
use Rattle.cluster_runs.specs.declared.event.ClusterEvent.{ClusterEvent}
use Rattle.cluster_runs.specs.declared.event.ClusterEvent.TheVariants as event
use Rattle.cluster_runs.specs.declared.turn.Turn.{Turn}
use Rattle.cluster_runs.specs.declared.turn.Turn.TheVariants as turn
use Rattle.controllers.specs.declared.set_spec.SetSpec.{SetSpec}

-- ---- the other clients: the callers that `outside` and `ask` name
abbrev pub client_calling : ClusterEvent → Option ℕ
client_calling (event.Outside n r) = Some n
client_calling e = None

abbrev pub client_of : Turn → Option ℕ
client_of (turn.Event e) = client_calling e
client_of (turn.Ask n r) = Some n
client_of t = None

abbrev pub clients_from : (names : List ℕ) → List Turn → List ℕ
clients_from names [] = names
clients_from names (t ∷ ts) = clients_from (with_named names (client_of t)) ts

abbrev pub clients_of : List Turn → List ℕ
clients_of turns = clients_from [] turns

-- ---- `web, controller 0, `
abbrev pub controller_role : (controller : ℕ) → Option SetSpec → List ℕ
controller_role i None = []
controller_role i (Some set) = set.name ++ (codes ", controller " ++ (decimal i ++ codes ", "))

-- A caller that was used is a controller's, or another client's, or the kubelet.
abbrev pub other_role : (clients : List ℕ) → (caller : ℕ) → List ℕ
other_role clients caller = if list_any (is_at (nat_cmp caller)) clients then [] else codes "kubelet, "

-- by the controller that a caller is or was, if any
abbrev pub role_by : List SetSpec → (clients : List ℕ) → (owner : Option ℕ) → (caller : ℕ) → List ℕ
role_by sets clients None caller = other_role clients caller
role_by sets clients (Some i) caller = controller_role i (slice_get sets i)

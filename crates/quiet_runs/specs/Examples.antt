-- A list over eight shards: a read, eight parts and a reply are ten steps.
use Rattle.std.specs.Prelude.{ℕ, [], ◌∷◌, Option}
use Rattle.objects.specs.declared.kind.Kind.TheVariants.{Pod}
use Rattle.requests.specs.declared.reply.Reply.{Reply}
use Rattle.requests.specs.declared.request.Request.TheVariants.{List}
use Rattle.interleavings.specs.World.{Size}
use Rattle.rounds.specs.Reconciler.{Reconciler}
use Rattle.cluster_runs.specs.declared.event.ClusterEvent.TheVariants.{Outside}
use Rattle.cluster_runs.specs.Cluster.{Cluster, run, start}
use Rattle.cluster_runs.specs.Turns.{carried_in}

abbrev pub size : Size
size = record { capacity = 4; shards = 8 }

-- if no other client has sent anything, caller 0 calls a list
abbrev pub list_called : (ℕ → Reconciler) → Cluster
list_called reconcilers = run size 0 reconcilers (start 0) (Outside 0 (List Pod [] 0) ∷ [])

abbrev pub reply_within : (steps : ℕ) → (ℕ → Reconciler) → Option Reply
reply_within steps reconcilers = (carried_in steps 0 size 0 reconcilers (list_called reconcilers)).1

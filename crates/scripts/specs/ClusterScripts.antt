-- The script in a text: its first line says what the cluster is made of, and each other line is a turn.
use Rattle.std.specs.Prelude.{ℕ, List, map, Option, Some}
use Rattle.serde_json.specs.Data.{Members}
use Rattle.plain.specs.Lines.{lines}
use Rattle.interleavings.specs.World.{Size}
use Rattle.cluster_runs.specs.declared.turn.Turn.{Turn}
use Rattle.controllers.specs.Cluster.{size_of}
use Rattle.controllers.specs.declared.cluster_spec.ClusterSpec.{ClusterSpec}
use Rattle.scripts.specs.Events.{◌>>=◌, line_members}
use Rattle.scripts.specs.Scripts.{script_by, size_in}
use Rattle.scripts.specs.Turns.{turn_of}
use Rattle.scripts.specs.Sets.{SetParts, set_parts, sets_in}
use Rattle.scripts.specs.declared.cluster_script.ClusterScript.{ClusterScript}

-- what a `ClusterSpec` has
pub record ClusterParts : Type 0 where
  pub size : Size
  pub sets : List SetParts

abbrev pub cluster_parts : ClusterSpec → ClusterParts
cluster_parts spec = record { size = size_of spec; sets = map set_parts spec.sets.items }

-- `{"capacity":C,"sets":[..],"shards":K}`
abbrev pub cluster_in : Members → Option ClusterParts
cluster_in ms = do
  size ← size_in ms
  sets ← sets_in ms
  Some (record { size = size; sets = sets })

abbrev pub cluster_of : List ℕ → Option ClusterParts
cluster_of line = line_members line >>= cluster_in

unfoldable pub cluster_script_of : List ℕ → Option (ClusterParts × List Turn)
cluster_script_of text = script_by cluster_of turn_of (lines text)

abbrev pub parts_of : ClusterScript → ClusterParts × List Turn
parts_of s = (cluster_parts s.spec, s.turns.items)

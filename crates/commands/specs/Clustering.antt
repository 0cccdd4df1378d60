-- What a run of `stsctl cluster` has done, as far as the devices show it.
use Rattle.std.specs.Prelude.{◌≡◌, Bool, ℕ, List, length, Option, Some, None, codes}
use Rattle.cluster_runs.specs.Cluster.{Cluster}
use Rattle.cluster_runs.specs.Ran.{IsClusterRun, cluster_after, owner_in}
use Rattle.cluster_runs.specs.Turns.{ends_of_turns}
use Rattle.cluster_runs.specs.declared.fault.ClusterFault.{ClusterFault}
use Rattle.cluster_runs.specs.declared.fault.ClusterFault.TheVariants as errors
use Rattle.cluster_runs.specs.declared.run.ClusterRun.{ClusterRun}
use Rattle.controllers.specs.Cluster.{namespaces_of, reconciler_named, size_of}
use Rattle.controllers.specs.declared.cluster_spec.ClusterSpec.{ClusterSpec}
use Rattle.scripts.specs.ClusterPrinting.{cluster_text}
use Rattle.scripts.specs.ClusterScripts.{cluster_script_of, parts_of}
use Rattle.scripts.specs.declared.cluster_script.ClusterScript.{ClusterScript}
use Rattle.clap.specs.Words.{Text}
use Rattle.pictures.specs.Picture.{picture_text}
use Rattle.pictures.specs.declared.shown.Shown.{Shown}
use Rattle.traces.specs.RefusedPlans.{refused_plans}
use Rattle.traces.specs.RefusedLines.{line_at}
use Rattle.traces.specs.declared.refused_plan.RefusedPlan.{RefusedPlan}
use Rattle.pictures.specs.Story.{story_text}
use Rattle.traces.specs.Traced.{trace_by_lines_text}
use Rattle.scripts.specs.Refusals.{refused_cluster_line_of}
pub use Rattle.race_scripts.specs.Leading.{events_by}
use Rattle.commands.specs.Halts.{IsRefusedIn}
use Rattle.commands.specs.Forms.{IsFormatBy, WritesBy}
use Rattle.commands.specs.Grammar.{flag_text}
use Rattle.commands.specs.Replaying.{IsSizeRefusal}
use Rattle.commands.specs.Roles.{clients_of, role_by}
use Rattle.commands.specs.Running.{IsScriptRefusal, IsScriptText}
use Rattle.commands.specs.declared.options.OutputFormat.{OutputFormat}
use Rattle.commands.specs.declared.options.OutputFormat.TheVariants.{Lines, Picture, Trace, Writes}

-- the cluster of the script, after its events
abbrev pub cluster_by : ClusterScript → Cluster
cluster_by script = cluster_after (size_of script.spec) (length script.spec.sets.items) (reconciler_named script.spec.sets.items) (events_by script)

-- the requests of the controllers and all replies in the run of the script, and its order, which is a legal one
abbrev pub IsClusterText : ClusterScript → List ℕ → Type 0
IsClusterText script text = (found : ClusterRun)
    × IsClusterRun (size_of script.spec) (length script.spec.sets.items) (reconciler_named script.spec.sets.items) (events_by script) found
    × (text ≡ cluster_text (owner_in found.owners) found.run.trace.items.items found.run.order.items)

-- how that run names its callers
abbrev pub role_in : ClusterScript → ClusterRun → (caller : ℕ) → List ℕ
role_in script found n = role_by script.spec.sets.items (clients_of script.turns.items) (owner_in found.owners n) n

-- the picture of that run, in which a caller that is or was a controller is named by its set and its number, and the
-- kubelet so
abbrev pub IsClusterPicture : Shown → ClusterScript → List ℕ → Type 0
IsClusterPicture shown script text = (found : ClusterRun)
    × IsClusterRun (size_of script.spec) (length script.spec.sets.items) (reconciler_named script.spec.sets.items) (events_by script) found
    × (text ≡ picture_text shown (size_of script.spec) (role_in script found) found.events.items)

-- the writes of that run, in which callers are named so too
abbrev pub IsClusterStory : ClusterScript → List ℕ → Type 0
IsClusterStory script text = (found : ClusterRun)
    × IsClusterRun (size_of script.spec) (length script.spec.sets.items) (reconciler_named script.spec.sets.items) (events_by script) found
    × (text ≡ story_text (role_in script found) (size_of script.spec) found.events.items)

-- how many events there are up to the end of each of its turns
abbrev pub ends_by : ClusterScript → List ℕ
ends_by script = ends_of_turns (size_of script.spec) (length script.spec.sets.items) (reconciler_named script.spec.sets.items) (namespaces_of script.spec.sets.items) script.turns.items

-- The trace of a run, under the lines of the script, the first of which is the size. A refused plan is noted at its
-- index.
abbrev pub trace_beside : ClusterSpec → (clients : List ℕ) → ClusterRun → (ends : List ℕ) → List RefusedPlan → List ℕ
trace_beside spec clients found ends plans =
    trace_by_lines_text (λ n. role_by spec.sets.items clients (owner_in found.owners n) n) (line_at spec.sets.items plans)
    (size_of spec) found.events.items ends 2

abbrev pub trace_of : ClusterScript → ClusterRun → (ends : List ℕ) → List ℕ
trace_of script found ends =
    trace_beside script.spec (clients_of script.turns.items) found ends (refused_plans (owner_in found.owners) script.spec.sets.items found.run.trace.items.items)

-- that of the script's run
abbrev pub IsClusterTrace : ClusterScript → List ℕ → Type 0
IsClusterTrace script text = (found : ClusterRun)
    × IsClusterRun (size_of script.spec) (length script.spec.sets.items) (reconciler_named script.spec.sets.items) (events_by script) found
    × (text ≡ trace_of script found (ends_by script))

abbrev pub IsClusterShown : OutputFormat → ClusterScript → List ℕ → Type 0
IsClusterShown Lines script text = IsClusterText script text
IsClusterShown (Picture shown) script text = IsClusterPicture shown script text
IsClusterShown Writes script text = IsClusterStory script text
IsClusterShown Trace script text = IsClusterTrace script text

-- the same for the script in the input
abbrev pub IsClusterTextOf : OutputFormat → (input text : List ℕ) → Type 0
IsClusterTextOf form input text = IsScriptText cluster_script_of parts_of IsClusterShown form input text

-- That text was written, in the requested form.
abbrev pub Clusters : (puts : Option (List ℕ) → List ℕ → Option (List ℕ) → Type 0) → List Text → (had left before after : Option (List ℕ)) → Type 0
Clusters puts words had left before after =
    (form : OutputFormat) × IsFormatBy (λ flag. flag_text (codes "cluster") flag words) form × WritesBy puts (IsClusterTextOf form) had left before after

-- the run of the script is refused as that of a replay, by the callers that are used
abbrev pub IsClusterRunRefusal : ClusterScript → (name : List ℕ) → Type 0
IsClusterRunRefusal script name = IsSizeRefusal script.spec.shards script.spec.capacity (length (cluster_by script).used) name

-- the name of the refusal of a run; out of memory is none
abbrev pub cluster_refusal : ClusterFault → Option (List ℕ)
cluster_refusal errors.BadShards = Some (codes "BadShards")
cluster_refusal errors.BadCapacity = Some (codes "BadCapacity")
cluster_refusal errors.TooManyCallers = Some (codes "TooManyCallers")
cluster_refusal errors.Memory = None

-- the input is refused for this, as it is no script or as its run is
abbrev pub IsClusterRefusal : (shows_line : Bool) → (input name : List ℕ) → Type 0
IsClusterRefusal shows_line input name = IsScriptRefusal cluster_script_of parts_of refused_cluster_line_of IsClusterRunRefusal shows_line input name

-- All of the reader's bytes were read, and are refused by this name.
abbrev pub IsClusterRefusedBy : (shows_line : Bool) → Option (List ℕ) → Option (List ℕ) → List ℕ → Type 0
IsClusterRefusedBy shows_line had left name = IsRefusedIn (IsClusterRefusal shows_line) had left name

-- How ready a pod is (Kubernetes, "Pod Lifecycle": "Pod phase" and "Pod conditions").
use Rattle.std.specs.Prelude.{ℕ, Bool, false, ◌&&◌, ◌||◌, List, codes, Option, Some, None, option_and_then, if◌then◌else◌}
use Rattle.std.specs.Option.{option_map_or}
use Rattle.serde_json.specs.Data.{Data, Items, no_items, item}
use Rattle.serde_json.specs.Find.{get, as_array}
use Rattle.objects.specs.Object.{is_text}
use Rattle.objects.specs.Status.{member_of}
use Rattle.set_views.specs.declared.readiness.Readiness.{Readiness}
use Rattle.set_views.specs.declared.readiness.Readiness.TheVariants.{Failed, Ready, NotReady}
use Rattle.set_views.specs.Values.{inside}

-- the value of a member is this text
abbrev pub says : List ℕ → List ℕ → Data → Bool
says k word d = option_map_or (is_text word) (get k d) false

-- the first item that passes the test
abbrev pub find_item : (Data → Bool) → Items → Option Data
find_item p no_items = None
find_item p (item d ds) = if p d then Some d else find_item p ds

-- of several conditions of type `Ready` the first counts
abbrev pub are_ready : Items → Bool
are_ready conditions = option_map_or (says (codes "status") (codes "True")) (find_item (says (codes "type") (codes "Ready")) conditions) false

-- a value is this text
abbrev pub is_word : List ℕ → Option Data → Bool
is_word word found = option_map_or (is_text word) found false

-- a pod of this phase with these conditions; one that succeeded has ended too, and its set needs it running
abbrev pub readiness_with : Option Data → Option Data → Readiness
readiness_with phase conditions =
    if is_word (codes "Failed") phase || is_word (codes "Succeeded") phase then Failed
    else if is_word (codes "Running") phase && option_map_or are_ready (option_and_then as_array conditions) false then Ready
    else NotReady

-- by the `status` of a pod
unfoldable pub readiness_of : Data → Readiness
readiness_of body = let status = member_of (codes "status") body in readiness_with (inside (codes "phase") status) (inside (codes "conditions") status)

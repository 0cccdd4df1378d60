-- What is printed of the run of a script, or why the input is refused, for any kind of script.
use Rattle.std.specs.Prelude.{◌≡◌, ◌⊎◌, Bool, ℕ, List, [], Option, Some, None, codes}
use Rattle.commands.specs.Halts.{refused_as, told_line}
use Rattle.commands.specs.declared.options.OutputFormat.{OutputFormat}

-- the input is a script, and of its run such a text is shown in this form
abbrev pub IsScriptText : {Parts Script : Type 0} → (script_of : List ℕ → Option Parts) → (parts : Script → Parts) → (IsShown : OutputFormat → Script → List ℕ → Type 0)
    → OutputFormat → (input text : List ℕ) → Type 0
IsScriptText {Parts} {Script} script_of parts IsShown form input text = (script : Script) × (script_of input ≡ Some (parts script)) × IsShown form script text

-- The input is refused as BadScript exactly if it is no script, for its first line that is no line of one, and else as
-- its run is.
abbrev pub IsScriptRefusal : {Parts Script : Type 0} → (script_of : List ℕ → Option Parts) → (parts : Script → Parts) → (refused_line : List ℕ → Option ℕ)
    → (IsRunRefusal : Script → List ℕ → Type 0) → (shows_line : Bool) → (input name : List ℕ) → Type 0
IsScriptRefusal {Parts} {Script} script_of parts refused_line IsRunRefusal shows_line input name =
    ((script_of input ≡ None) × (name ≡ refused_as (told_line shows_line (refused_line input)) [] (codes "BadScript")))
    ⊎ ((script : Script) × (script_of input ≡ Some (parts script)) × IsRunRefusal script name)

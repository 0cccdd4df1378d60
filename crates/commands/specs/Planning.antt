-- What a run of `stsctl plan` has done, as far as the devices show it.
use Rattle.std.specs.Prelude.{◌≡◌, ◌⊎◌, ◌++◌, ℕ, Bool, true, false, List, [], Option, None, Some, Ok, Err, codes, find}
use Rattle.std.specs.Option.{IfSome}
use Rattle.clap.specs.Words.{Text}
use Rattle.objects.specs.declared.fault.ReadError.{ReadError}
use Rattle.objects.specs.declared.fault.ReadError.TheVariants as read
use Rattle.objects.specs.declared.object.Object.{Object}
use Rattle.plain.specs.Lines.{lines}
use Rattle.plain.specs.Replies.{read_error_name}
use Rattle.set_views.specs.declared.fault.PlanError.{PlanError}
use Rattle.set_views.specs.declared.fault.PlanError.TheVariants as errors
use Rattle.set_views.specs.Set.{SetParts}
use Rattle.set_views.specs.SetReading.{set_of}
use Rattle.sets.specs.declared.action.Action.{Action}
use Rattle.sets.specs.declared.action.Plan.{Plan}
use Rattle.sets.specs.Plan.{IsPlan}
use Rattle.reasons.specs.Reasons.{Grounds, grounds_of_lists}
use Rattle.reasons.specs.Why.{grounds}
use Rattle.reasons.specs.declared.why.Why.{Why}
use Rattle.plan_lines.specs.Brief.{brief_text, closing}
use Rattle.plan_lines.specs.Formats.{json_text}
use Rattle.plan_lines.specs.Objects.{Lists, is_named, nothing, read_from}
use Rattle.plan_lines.specs.RefusedLines.{refused_line_of}
use Rattle.plan_lines.specs.Refusals.{plan_error_name}
use Rattle.commands.specs.declared.args.PlanWords.{PlanWords}
use Rattle.commands.specs.declared.plan.Planned.{Planned}
use Rattle.commands.specs.Halts.{foreign_as, refused_as, told_line}
use Rattle.commands.specs.CommandLine.{IsPlanAsked}
use Rattle.commands.specs.Forms.{WritesBy}

-- how a plan's actions are written: in words, if that is requested, with their reasons, and with the claims that will be
-- deleted after them
abbrev pub text_by : (brief : Bool) → Grounds → (claims : List Object) → List Action → List ℕ
text_by false g claims actions = json_text actions
text_by true g claims actions = brief_text g actions ++ closing g actions claims

abbrev pub text_of : PlanWords → SetParts → Lists → List Action → List ℕ
text_of asked set lists actions = text_by asked.brief (grounds_of_lists set asked.digits lists.revisions lists.pods) lists.claims actions

-- the text of a plan of this set
abbrev pub IsTextOfSet : PlanWords → SetParts → Lists → (text : List ℕ) → Type 0
IsTextOfSet asked set lists text =
    (plan : Plan) × IsPlan set lists.pods lists.claims lists.revisions asked.digits (Ok plan) × (text ≡ text_of asked set lists plan.actions.items)

-- the text of a plan of the requested set, which is the first of its namespace and name among the objects
abbrev pub IsTextOver : PlanWords → Lists → (text : List ℕ) → Type 0
IsTextOver asked lists text = (object : Object) × (find (is_named asked.namespace.now asked.name.now) lists.sets ≡ Some object)
    × ((set : SetParts) × (set_of object ≡ Ok set) × IsTextOfSet asked set lists text)

-- such a text, if each line of the input is an object
abbrev pub IsPlanText : PlanWords → (input text : List ℕ) → Type 0
IsPlanText asked input text = (lists : Lists) × (read_from nothing (lines input) ≡ Ok lists) × IsTextOver asked lists text

-- Such a text was written, of the requested plan.
abbrev pub Plans : (puts : Option (List ℕ) → List ℕ → Option (List ℕ) → Type 0) → List Text → (had left before after : Option (List ℕ)) → Type 0
Plans puts words had left before after = (asked : PlanWords) × IsPlanAsked words asked × WritesBy puts (IsPlanText asked) had left before after

-- the name of the refusal of a line; out of memory is none
abbrev pub read_refusal : ReadError → Option (List ℕ)
read_refusal read.NotJson = Some (read_error_name read.NotJson)
read_refusal read.NotWhole = Some (read_error_name read.NotWhole)
read_refusal read.NoKind = Some (read_error_name read.NoKind)
read_refusal read.UnknownKind = Some (read_error_name read.UnknownKind)
read_refusal read.BadName = Some (read_error_name read.BadName)
read_refusal read.BadMeta = Some (read_error_name read.BadMeta)
read_refusal read.TooLong = Some (read_error_name read.TooLong)
read_refusal read.Memory = None

-- what is wrong in that line
abbrev pub fault_words : ReadError → List ℕ
fault_words read.NotJson = codes ": it is not JSON"
fault_words read.NotWhole = codes ": a number is not whole"
fault_words read.NoKind = codes ": kind"
fault_words read.UnknownKind = codes ": kind or apiVersion"
fault_words read.BadName = codes ": metadata.name or metadata.namespace"
fault_words read.BadMeta = codes ": another member of metadata"
fault_words read.TooLong = codes ": it is too long"
fault_words read.Memory = []

-- the same of a set, or of its plan, and the pod that is not the set's, if it is to be told
abbrev pub plan_refusal : (shows_pod : Bool) → PlanError → Option (List ℕ)
plan_refusal shows_pod errors.NameTooLong = Some (plan_error_name errors.NameTooLong)
plan_refusal shows_pod errors.BadSpec = Some (plan_error_name errors.BadSpec)
plan_refusal shows_pod (errors.Foreign pod) = Some (foreign_as shows_pod pod)
plan_refusal shows_pod errors.OrdinalTooLarge = Some (plan_error_name errors.OrdinalTooLarge)
plan_refusal shows_pod errors.NoRevisionName = Some (plan_error_name errors.NoRevisionName)
plan_refusal shows_pod errors.Memory = None

-- the plan of the set over these objects is refused by this name
abbrev pub IsPlanOfSetRefused : PlanWords → SetParts → Lists → List ℕ → Type 0
IsPlanOfSetRefused asked set lists name =
    (e : PlanError) × (plan_refusal asked.shows_line e ≡ Some name) × IsPlan set lists.pods lists.claims lists.revisions asked.digits (Err e)

-- the same, or what is read of the set is, and that names no pod
abbrev pub IsSetRefused : PlanWords → Object → Lists → List ℕ → Type 0
IsSetRefused asked object lists name = ((e : PlanError) × (plan_refusal false e ≡ Some name) × (set_of object ≡ Err e))
    ⊎ ((set : SetParts) × (set_of object ≡ Ok set) × IsPlanOfSetRefused asked set lists name)

-- No set among the objects is the requested one, which is NotFound, or the first that is has no plan.
abbrev pub IsRefusedOver : PlanWords → Lists → List ℕ → Type 0
IsRefusedOver asked lists name = ((find (is_named asked.namespace.now asked.name.now) lists.sets ≡ None) × (name ≡ codes "NotFound"))
    ⊎ ((object : Object) × (find (is_named asked.namespace.now asked.name.now) lists.sets ≡ Some object) × IsSetRefused asked object lists name)

-- A line of the input is no object, for the reason of this name, and for the first such line.
abbrev pub IsInputRefusal : (shows_line : Bool) → (input name : List ℕ) → Type 0
IsInputRefusal shows_line input name = (e : ReadError) × ((n : List ℕ) × (read_refusal e ≡ Some n) × (read_from nothing (lines input) ≡ Err e)
    × (name ≡ refused_as (told_line shows_line (refused_line_of input)) (fault_words e) n))

-- The input is refused for this, or its objects have no plan.
abbrev pub IsPlanRefusal : PlanWords → (input name : List ℕ) → Type 0
IsPlanRefusal asked input name = IsInputRefusal asked.shows_line input name
    ⊎ ((lists : Lists) × (read_from nothing (lines input) ≡ Ok lists) × IsRefusedOver asked lists name)

-- All of the reader's bytes were read, and have no plan, for the reason of this name.
abbrev pub IsPlanRefusedBy : PlanWords → Option (List ℕ) → Option (List ℕ) → List ℕ → Type 0
IsPlanRefusedBy asked had left name = IfSome had (λ input. (left ≡ Some []) × IsPlanRefusal asked input name)

-- ---- for private clauses

-- the actions, in words if there are reasons
abbrev pub text_with : Option Why → List Action → List ℕ
text_with None actions = json_text actions
text_with (Some why) actions = brief_text (grounds why) actions

abbrev pub planned_text : Planned → List ℕ
planned_text planned = text_with planned.why planned.plan.actions.items ++ planned.closing.items

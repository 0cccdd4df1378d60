-- What the program accepts, as `clap` reads it: `serve [--capacity N]`,
-- `replay [--picture] [--writes] [--trace] [--where]`, `cluster [--picture] [--writes] [--trace] [--where]`,
-- `plan --set NAME [--namespace NS] [--digits H] [--brief] [--where]`,
-- `race [--controllers N] [--shards N] [--rounds N] [--replicas N] [--operator] [--history]`, and
-- `outcomes [--final] [--both] [--brief] [--states N] [--script K] [--where]`. `clap` adds help and the version.
use Rattle.std.specs.Prelude.{◌≡◌, ◌≤◌, ◌<◌, ◌^◌, ℕ, Bool, true, false, List, [], ◌∷◌, Option, Some, None, codes, if◌then◌else◌}
use Rattle.std.specs.Option.{option_map_or}
use Rattle.std.specs.Str.{bytes_eq}
use Rattle.std.specs.Str.Parse.{IsNumeral, digits_value, without_leading_plus}
use Rattle.clap.specs.Words.{App, Kinds, Row, Rule, Text, fault_of, first_of, new_app, new_rule, one_of, subcommand_of, with_rule, with_subcommand}
use Rattle.clap.specs.Simple.{new_shape}
use Rattle.clap.specs.declared.builder.action.ArgAction.TheVariants.{SetTrue}
use Rattle.clap.specs.declared.builder.value_parser.ValueParser.{ValueParser}
use Rattle.clap.specs.declared.builder.value_parser.ValueParser.TheVariants as parsers
use Rattle.clap.specs.declared.error.kind.ErrorKind.{ErrorKind}
use Rattle.clap.specs.declared.error.kind.ErrorKind.TheVariants.{DisplayHelp, DisplayVersion, OutOfMemory}
use Rattle.plain_store.specs.Reached.{most_revisions}

abbrev pub capacity_rule : Rule
capacity_rule = record (new_rule (codes "capacity")) {
  long = Some (codes "capacity");
  value_names = 1;
  parser = Some (parsers.Unsigned 1 most_revisions);
}

abbrev pub serve_app : App
serve_app = with_rule (new_app (codes "serve")) capacity_rule

-- a flag, which is given or not
abbrev pub flag_rule : Text → Rule
flag_rule name = record (new_rule name) { long = Some name; action = Some SetTrue }

abbrev pub picture_rule : Rule
picture_rule = flag_rule (codes "picture")

abbrev pub writes_rule : Rule
writes_rule = flag_rule (codes "writes")

abbrev pub trace_rule : Rule
trace_rule = flag_rule (codes "trace")

-- how a run of a script is printed, and whether a refusal names its line
abbrev pub with_forms : App → App
with_forms app = with_rule (with_rule (with_rule (with_rule app picture_rule) writes_rule) trace_rule) (flag_rule (codes "where"))

abbrev pub replay_app : App
replay_app = with_forms (new_app (codes "replay"))

abbrev pub cluster_app : App
cluster_app = with_forms (new_app (codes "cluster"))

abbrev pub set_rule : Rule
set_rule = record (new_rule (codes "set")) { long = Some (codes "set"); value_names = 1; required = true }

abbrev pub namespace_rule : Rule
namespace_rule = record (new_rule (codes "namespace")) { long = Some (codes "namespace"); value_names = 1 }

abbrev pub digits_rule : Rule
digits_rule = record (new_rule (codes "digits")) {
  long = Some (codes "digits");
  value_names = 1;
  parser = Some (parsers.Unsigned 1 64);
}

abbrev pub brief_rule : Rule
brief_rule = flag_rule (codes "brief")

abbrev pub plan_app : App
plan_app = with_rule (with_rule (with_rule (with_rule (with_rule (new_app (codes "plan")) set_rule) namespace_rule) digits_rule) brief_rule) (flag_rule (codes "where"))

-- an option of `race`, whose value is what the parser accepts
abbrev pub option_rule : Text → ValueParser → Rule
option_rule name parser = record (new_rule name) { long = Some name; value_names = 1; parser = Some parser }

-- `race` with the options for its size
abbrev pub sized_app : App
sized_app = with_rule (with_rule (with_rule (with_rule (new_app (codes "race")) (option_rule (codes "controllers") (parsers.Unsigned 1 64)))
    (option_rule (codes "shards") (parsers.Unsigned 1 64))) (option_rule (codes "rounds") (parsers.Unsigned 1 1024)))
    (option_rule (codes "replicas") (parsers.Unsigned 0 64))

abbrev pub race_app : App
race_app = with_rule (with_rule sized_app (flag_rule (codes "operator"))) (flag_rule (codes "history"))

abbrev pub outcomes_app : App
outcomes_app = with_rule (with_rule (with_rule (with_rule (with_rule (with_rule (new_app (codes "outcomes"))
    (option_rule (codes "script") (parsers.Unsigned 1 1000000))) brief_rule) (flag_rule (codes "final"))) (flag_rule (codes "both")))
    (option_rule (codes "states") (parsers.Unsigned 1 1000000))) (flag_rule (codes "where"))

abbrev pub stsctl_app : App
stsctl_app = with_subcommand (with_subcommand (with_subcommand (with_subcommand (with_subcommand (with_subcommand
    (record (new_app (codes "stsctl")) { top = record (new_shape (codes "stsctl")) { has_version = true; subcommand_required = true } })
    serve_app.top) replay_app.top) cluster_app.top) plan_app.top) race_app.top) outcomes_app.top

-- why the arguments, the program's name first, are no command of the program; nothing if they are one
unfoldable pub faults_of : List Text → Kinds
faults_of words = fault_of stsctl_app words

-- the options of this subcommand, one by one
abbrev pub rows_under : Text → Option (Text × List Row) → List Row
rows_under word entered = option_map_or (λ e. if bytes_eq e.0 word then e.1 else []) entered []

abbrev pub is_under : Text → Option (Text × List Row) → Bool
is_under word entered = option_map_or (λ e. bytes_eq e.0 word) entered false

-- the requested command, or none
pub data Word : Type 0 where
  Serve : Word
  Replay : Word
  Cluster : Word
  Plan : Word
  Race : Word
  Outcomes : Word
  NoWork : Word

-- which of them, by the subcommands that are named
abbrev pub word_by : (plan race replay cluster outcomes : Bool) → Word
word_by true race replay cluster outcomes = Plan
word_by false true replay cluster outcomes = Race
word_by false false true cluster outcomes = Replay
word_by false false false true outcomes = Cluster
word_by false false false false true = Outcomes
word_by false false false false false = Serve

abbrev pub word_of : Kinds → Option (Text × List Row) → Word
word_of [] met =
    word_by (is_under (codes "plan") met) (is_under (codes "race") met) (is_under (codes "replay") met) (is_under (codes "cluster") met)
    (is_under (codes "outcomes") met)
word_of (kind ∷ kinds) met = NoWork

-- the requested command; none if the arguments have a fault
unfoldable pub asked : List Text → Word
asked words = word_of (faults_of words) (subcommand_of stsctl_app words)

-- the text after `--capacity`, if the arguments have one
unfoldable pub capacity_text : List Text → Option Text
capacity_text words = one_of (codes "capacity") (rows_under (codes "serve") (subcommand_of stsctl_app words))

-- what `clap` has for this flag of this subcommand
unfoldable pub flag_text : (word flag : Text) → List Text → Option Text
flag_text word flag words = one_of flag (rows_under word (subcommand_of stsctl_app words))

-- the text after this option of `plan`, if the arguments have one
unfoldable pub plan_text : Text → List Text → Option Text
plan_text option words = first_of option (rows_under (codes "plan") (subcommand_of stsctl_app words))

-- the number after `--digits`, as text
unfoldable pub digits_text : List Text → Option Text
digits_text words = one_of (codes "digits") (rows_under (codes "plan") (subcommand_of stsctl_app words))

-- The store has room for as many revisions as the text says in decimal digits, or else for as many as possible. If the
-- text is no such number, the arguments have a fault.
abbrev pub IsCapacityBy : Option Text → ℕ → Type 0
IsCapacityBy None capacity = capacity ≡ most_revisions
IsCapacityBy (Some text) capacity =
    IsNumeral 10 (without_leading_plus text) → digits_value 10 (without_leading_plus text) < 2 ^ 64
    → capacity ≡ digits_value 10 (without_leading_plus text)

-- the arguments request a store with room for so many revisions
abbrev pub AsksFor : List Text → ℕ → Type 0
AsksFor words capacity = IsCapacityBy (capacity_text words) capacity

-- The number is the one that the text says in decimal digits, or else the default. If the text is no number in the
-- range, the arguments have a fault.
abbrev pub IsNumberBy : (usual least most : ℕ) → Option Text → ℕ → Type 0
IsNumberBy usual least most None n = n ≡ usual
IsNumberBy usual least most (Some text) n =
    IsNumeral 10 (without_leading_plus text) → least ≤ digits_value 10 (without_leading_plus text)
    → digits_value 10 (without_leading_plus text) ≤ most → n ≡ digits_value 10 (without_leading_plus text)

-- The name of a new revision gets as many hex digits of its hash as the text says, from 1 to 64, or else 10.
abbrev pub IsDigitsBy : Option Text → ℕ → Type 0
IsDigitsBy text digits = IsNumberBy 10 1 64 text digits

-- the number after this option of `race`, as text, or what `clap` has for this flag of it
unfoldable pub race_text : Text → List Text → Option Text
race_text option words = one_of option (rows_under (codes "race") (subcommand_of stsctl_app words))

-- the number after this option of `outcomes`, as text, or what `clap` has for this flag of it
unfoldable pub outcomes_text : Text → List Text → Option Text
outcomes_text option words = one_of option (rows_under (codes "outcomes") (subcommand_of stsctl_app words))

-- The end whose script is requested has the number that the text says in decimal digits; without a text none is. If
-- the text is no such number, the arguments have a fault.
abbrev pub IsChoiceBy : Option Text → Option ℕ → Type 0
IsChoiceBy None choice = choice ≡ None
IsChoiceBy (Some text) choice =
    IsNumeral 10 (without_leading_plus text) → digits_value 10 (without_leading_plus text) < 2 ^ 64
    → choice ≡ Some (digits_value 10 (without_leading_plus text))

-- the arguments request help or the version
abbrev pub is_request : ErrorKind → Bool
is_request DisplayHelp = true
is_request DisplayVersion = true
is_request _ = false

-- the arguments are bad
abbrev pub is_mistake : ErrorKind → Bool
is_mistake DisplayHelp = false
is_mistake DisplayVersion = false
is_mistake OutOfMemory = false
is_mistake _ = true

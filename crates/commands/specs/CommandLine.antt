-- What the arguments request.
use Rattle.std.specs.Prelude.{◌≡◌, ◌≤◌, List, [], Option, true, false, codes, unwrap_or}
use Rattle.clap.specs.Words.{Row, Text, one_of}
use Rattle.commands.specs.declared.args.CommandLine.{CommandLine}
use Rattle.commands.specs.declared.args.CommandLine.TheVariants as say
use Rattle.commands.specs.declared.args.PlanWords.{PlanWords}
use Rattle.commands.specs.declared.args.ScriptWords.{ScriptWords}
use Rattle.commands.specs.declared.args.OutcomesWords.{OutcomesWords}
use Rattle.commands.specs.declared.race_words.RaceWords.{RaceWords}
use Rattle.commands.specs.Forms.{IsFlagBy, IsFormatBy}
use Rattle.commands.specs.Grammar.{AsksFor, Cluster, IsCapacityBy, IsChoiceBy, IsDigitsBy, IsNumberBy, Outcomes, Plan, Race, Replay, Serve, asked, digits_text, flag_text, is_under, outcomes_text, plan_text, race_text, rows_under}
use Rattle.race_log.specs.Limits.{is_race}

-- what is printed of a script, and whether a refusal names its line
abbrev pub IsScriptBy : (text : Text → Option Text) → ScriptWords → Type 0
IsScriptBy text script = IsFormatBy text script.form × IsFlagBy (text (codes "where")) script.shows_line

-- which end's script is requested, whether ends are printed in words, whether they are stores or both stores and what
-- callers are told, how many states the search may have, and whether a refusal names its line
abbrev pub AreOptionsBy : (text : Text → Option Text) → OutcomesWords → Type 0
AreOptionsBy text options = IsChoiceBy (text (codes "script")) options.choice × IsFlagBy (text (codes "brief")) options.brief
    × IsFlagBy (text (codes "final")) options.final_stores × IsFlagBy (text (codes "both")) options.both
    × IsNumberBy 200000 1 1000000 (text (codes "states")) options.limit × IsFlagBy (text (codes "where")) options.shows_line

-- the arguments after `plan`
abbrev pub IsPlanAsked : List Text → PlanWords → Type 0
IsPlanAsked words plan = (plan.namespace.now ≡ unwrap_or (plan_text (codes "namespace") words) (codes "default"))
    × (plan.name.now ≡ unwrap_or (plan_text (codes "set") words) []) × IsDigitsBy (digits_text words) plan.digits
    × (1 ≤ plan.digits) × (plan.digits ≤ 64) × IsFlagBy (flag_text (codes "plan") (codes "brief") words) plan.brief
    × IsFlagBy (flag_text (codes "plan") (codes "where") words) plan.shows_line

-- the numbers of some texts, each by its option, and which flags are given
abbrev pub IsRaceBy : (Text → Option Text) → RaceWords → Type 0
IsRaceBy text race = IsNumberBy 4 1 64 (text (codes "controllers")) race.spec.controllers
    × IsNumberBy 8 1 64 (text (codes "shards")) race.spec.shards
    × IsNumberBy 16 1 1024 (text (codes "rounds")) race.spec.rounds
    × IsNumberBy 3 0 64 (text (codes "replicas")) race.spec.replicas
    × IsFlagBy (text (codes "operator")) race.spec.operator × IsFlagBy (text (codes "history")) race.history

-- the arguments after `race`
abbrev pub IsRaceAsked : List Text → RaceWords → Type 0
IsRaceAsked words race = IsRaceBy (λ option. race_text option words) race × (is_race race.spec ≡ true)

-- what the arguments request, with all its options
abbrev pub IsCommandLine : List Text → CommandLine → Type 0
IsCommandLine words (say.Serve capacity) = (asked words ≡ Serve) × AsksFor words capacity
IsCommandLine words (say.Replay script) = (asked words ≡ Replay) × IsScriptBy (λ flag. flag_text (codes "replay") flag words) script
IsCommandLine words (say.Cluster script) = (asked words ≡ Cluster) × IsScriptBy (λ flag. flag_text (codes "cluster") flag words) script
IsCommandLine words (say.Plan plan) = (asked words ≡ Plan) × IsPlanAsked words plan
IsCommandLine words (say.Race race) = (asked words ≡ Race) × IsRaceAsked words race
IsCommandLine words (say.Outcomes options) = (asked words ≡ Outcomes) × AreOptionsBy (λ option. outcomes_text option words) options

-- ---- for private clauses: what arguments request that are no plan, race, replay or cluster, by their subcommand

abbrev pub IsFinding : Option (Text × List Row) → CommandLine → Type 0
IsFinding met (say.Outcomes options) = (is_under (codes "outcomes") met ≡ true)
    × AreOptionsBy (λ option. one_of option (rows_under (codes "outcomes") met)) options
IsFinding met (say.Serve capacity) = (is_under (codes "outcomes") met ≡ false)
    × IsCapacityBy (one_of (codes "capacity") (rows_under (codes "serve") met)) capacity
IsFinding met _ = ⊥

abbrev pub IsServing : Option (Text × List Row) → CommandLine → Type 0
IsServing met (say.Cluster script) = (is_under (codes "cluster") met ≡ true) × IsScriptBy (λ flag. one_of flag (rows_under (codes "cluster") met)) script
IsServing met other = (is_under (codes "cluster") met ≡ false) × IsFinding met other

abbrev pub IsScripted : Option (Text × List Row) → CommandLine → Type 0
IsScripted met (say.Replay script) = (is_under (codes "replay") met ≡ true) × IsScriptBy (λ flag. one_of flag (rows_under (codes "replay") met)) script
IsScripted met other = (is_under (codes "replay") met ≡ false) × IsServing met other

abbrev pub IsOther : Option (Text × List Row) → CommandLine → Type 0
IsOther met (say.Race race) = (is_under (codes "race") met ≡ true) × IsRaceBy (λ option. one_of option (rows_under (codes "race") met)) race
    × (is_race race.spec ≡ true)
IsOther met other = (is_under (codes "race") met ≡ false) × IsScripted met other

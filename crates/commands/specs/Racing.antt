-- What a run of `stsctl race` has done, as far as the devices show it.
use Rattle.std.specs.Prelude.{◌≡◌, ℕ, Bool, List, [], ◌++◌, Option, IsTrue, if◌then◌else◌}
use Rattle.clap.specs.Words.{Text}
use Rattle.plain.specs.Streams.{Puts, PutsPart}
use Rattle.scripts.specs.RaceHistory.{history_text}
use Rattle.race_log.specs.declared.judge.RaceHistory.{RaceHistory}
use Rattle.race_log.specs.Report.{report_text}
use Rattle.racing.specs.Parts.{IsRace}
use Rattle.commands.specs.declared.race_words.RaceWords.{RaceWords}
use Rattle.commands.specs.CommandLine.{IsRaceAsked}

-- the history of a race, if that is requested
abbrev pub history_shown : RaceWords → RaceHistory → List ℕ
history_shown asked race = if asked.history then history_text asked.spec race.trace.items.items race.order.items else []

-- what is printed of a race: that, and the line of its report
abbrev pub race_shown : RaceWords → RaceHistory → List ℕ
race_shown asked race = history_shown asked race ++ report_text race.report

-- What is requested was written of some race of this size, whose report is legal or not. If it is legal, it counts no
-- pod that was created twice.
abbrev pub Reports : Bool → RaceWords → Option (List ℕ) → Option (List ℕ) → Type 0
Reports legal asked before after = (race : RaceHistory) × IsRace asked.spec race × (race.report.legal ≡ legal)
    × (IsTrue race.report.legal → race.report.twice ≡ 0) × Puts before (race_shown asked race) after

-- the same for the requested race
abbrev pub Races : Bool → List Text → Option (List ℕ) → Option (List ℕ) → Type 0
Races legal words before after = (asked : RaceWords) × IsRaceAsked words asked × Reports legal asked before after

-- A prefix of what is requested was written of some race of this size.
abbrev pub ReportsPart : RaceWords → Option (List ℕ) → Option (List ℕ) → Type 0
ReportsPart asked before after = (race : RaceHistory) × IsRace asked.spec race × PutsPart before (race_shown asked race) after

-- the same for the requested race
abbrev pub RacesPart : List Text → Option (List ℕ) → Option (List ℕ) → Type 0
RacesPart words before after = (asked : RaceWords) × IsRaceAsked words asked × ReportsPart asked before after

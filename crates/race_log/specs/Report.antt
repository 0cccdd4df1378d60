-- The line of a report, compact JSON.
use Rattle.std.specs.Prelude.{ℕ, List, [], ◌∷◌, ◌++◌, codes}
use Rattle.serde_json.specs.Data.{Data, boolean, number, unsigned, object, no_members, member}
use Rattle.serde_json.specs.Written.{compact_text}
use Rattle.race_log.specs.declared.report.RaceReport.{RaceReport}

-- `{"controllers":N,"legal":B,"rounds":N,"shards":N,"twice":N}`
abbrev pub report_data : RaceReport → Data
report_data r = object
    (member (codes "controllers") (number (unsigned r.controllers))
    (member (codes "legal") (boolean r.legal)
    (member (codes "rounds") (number (unsigned r.rounds))
    (member (codes "shards") (number (unsigned r.shards))
    (member (codes "twice") (number (unsigned r.twice)) no_members)))))

-- with a line end
abbrev pub report_text : RaceReport → List ℕ
report_text r = compact_text (report_data r) ++ 10 ∷ []

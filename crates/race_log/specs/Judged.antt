-- What a report says of a log.
use Rattle.std.specs.Prelude.{◌≡◌, ℕ, ◌≤◌, List, [], map, IsTrue}
use Rattle.interleavings.specs.Linearization.{IsHistory, IsLegal}
use Rattle.std.specs.BTreeMap.{get}
use Rattle.std.specs.Ordering.{nat_cmp}
use Rattle.plain_store.specs.Reached.{most_revisions}
use Rattle.race_log.specs.declared.judge.RaceHistory.{RaceHistory}
use Rattle.race_log.specs.declared.log.Log.{Log}
use Rattle.race_log.specs.declared.report.RaceReport.{RaceReport}
use Rattle.race_log.specs.declared.spec.RaceSpec.{RaceSpec}
use Rattle.race_log.specs.declared.stamp.Stamp.{Stamp}
use Rattle.race_log.specs.Logged.{Noted}
use Rattle.race_log.specs.Order.{IsOrderOf}
use Rattle.race_log.specs.Twice.{repeats, replies_in_order}

-- what a log has
abbrev pub noted_of : Log → Noted
noted_of log = record { items = log.items.items; open_calls = get nat_cmp log.open_calls; stamps = log.stamps.items }

abbrev pub calls_of : List Stamp → List ℕ
calls_of order = map (λ (s : Stamp). s.call) order

-- The report names the size of the race. If it says legal, what was noted is a history, and the order of the race is a
-- legal one of it for a store of that capacity; and at a capacity that a plain store can have, it says legal whenever
-- that is so. `twice` is counted in that order.
pub record IsReportOf (capacity : ℕ) (spec : RaceSpec) (log : Noted) (report : RaceReport) : Type 0 where
  pub controllers : report.controllers ≡ spec.controllers
  pub rounds : report.rounds ≡ spec.rounds
  pub shards : report.shards ≡ spec.shards
  pub order : List Stamp
  pub ordered : IsOrderOf log.stamps order
  pub history : IsTrue report.legal → IsHistory log.items
  pub legal : IsTrue report.legal → IsLegal capacity log.items (calls_of order)
  pub complete : 1 ≤ capacity → capacity ≤ most_revisions → IsHistory log.items → IsLegal capacity log.items (calls_of order) → IsTrue report.legal
  pub twice : report.twice ≡ repeats (replies_in_order log.items order [])

-- What was noted, for a store of that capacity, with the order that was judged and the report of it.
pub record IsHistoryOf (capacity : ℕ) (spec : RaceSpec) (log : Noted) (history : RaceHistory) : Type 0 where
  pub judged : IsReportOf capacity spec log history.report
  pub noted : history.trace.items.items ≡ log.items
  pub room : history.trace.capacity ≡ capacity
  pub order : history.order.items ≡ calls_of judged.order

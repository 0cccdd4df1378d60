-- ---- what public clauses cite
pub mod AtKey
pub mod Drawn
pub mod Filed
pub mod Judged
pub mod Lives
pub mod Past
pub mod PrintedReplies
pub mod Reached
pub mod Route
pub mod Run
pub mod Since
pub mod StatusWrites
pub mod Store
pub mod Taken
-- ---- what only proofs use
pub mod Held
-- ---- of the crates below
pub use Rattle.requests.specs.Change
pub use Rattle.requests.specs.ChangeKinds
pub use Rattle.requests.specs.Judgments
pub use Rattle.requests.specs.Keys
pub use Rattle.requests.specs.Reasons
pub use Rattle.requests.specs.Verdict
pub use Rattle.version_map.specs.Keyed
pub use Rattle.version_map.specs.Keys as KeyRuns

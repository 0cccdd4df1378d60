-- ---- what public clauses cite
pub mod Faults
pub mod Lines
pub mod Replies
pub mod RequestParts
pub mod Requests
pub mod Served
pub mod ServedRun
pub mod Streams
pub mod ValueLines
pub mod Verbs
-- ---- what only proofs use
pub mod CompactGets
pub mod Splits
pub mod Serving
-- ---- of the crates below
pub use Rattle.plain_store.specs.AtKey
pub use Rattle.plain_store.specs.Drawn
pub use Rattle.plain_store.specs.Filed
pub use Rattle.plain_store.specs.Lives
pub use Rattle.plain_store.specs.Past
pub use Rattle.plain_store.specs.PrintedReplies
pub use Rattle.plain_store.specs.Reached
pub use Rattle.plain_store.specs.Route
pub use Rattle.plain_store.specs.Run
pub use Rattle.plain_store.specs.Since
pub use Rattle.plain_store.specs.StatusWrites
pub use Rattle.plain_store.specs.Store
pub use Rattle.plain_store.specs.Taken
pub use Rattle.plain_store.specs.declared.store.TheConstants
pub use Rattle.requests.specs.Change
pub use Rattle.requests.specs.ChangeKinds
pub use Rattle.requests.specs.Judgments
pub use Rattle.requests.specs.Keys
pub use Rattle.requests.specs.Reasons
pub use Rattle.requests.specs.Verdict
pub use Rattle.version_map.specs.Keyed
pub use Rattle.version_map.specs.Keys as KeyRuns

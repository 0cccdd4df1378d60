-- ---- cited by public clauses
pub mod Cluster
pub mod Controller
pub mod InTurn
pub mod Planned
pub mod Reconciler
pub mod Whole
pub mod Progress
-- ---- used only by proofs
pub mod Round
-- ---- of the crates below
pub use Rattle.rounds.specs.Phase

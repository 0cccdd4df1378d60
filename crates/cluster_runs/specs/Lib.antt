-- ---- cited by public clauses
pub mod Cluster
pub mod Examples
pub mod Faults
pub mod Ordered
pub mod Ran
pub mod Turns
-- ---- used only by proofs
pub mod UsedCallers
pub mod Leading
pub mod Shown

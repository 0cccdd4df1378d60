-- ---- cited by public clauses
pub mod Enabled
pub mod Places
pub mod Lines
pub mod Traced
pub mod InCluster
pub mod Noted
pub mod RefusedPlans
pub mod RefusedLines
-- ---- cited only by private clauses
pub mod Standing

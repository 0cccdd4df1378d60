-- ---- what public clauses cite
pub mod Replicas
pub mod Listed
pub mod Step
pub mod FullSteps
pub mod Least
pub mod Update
pub mod Scaling
pub mod Status
pub mod Views

-- ---- what public clauses cite
pub mod Template
pub mod Arrays
pub mod Volumes
pub mod BuiltPod
pub mod BuiltClaim
pub mod BuiltStatus

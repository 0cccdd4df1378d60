-- ---- what public clauses cite
pub mod Pods
pub mod Listed
pub mod Owners
pub mod Changes

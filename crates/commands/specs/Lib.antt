-- ---- cited by public clauses
pub mod CommandLine
pub mod Clustering
pub mod Finding
pub mod Forms
pub mod Grammar
pub mod Halts
pub mod Noting
pub mod Planning
pub mod Racing
pub mod Refusing
pub mod Replaying
pub mod Roles
pub mod Running
pub mod Serving

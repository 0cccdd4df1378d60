-- ---- what public clauses cite
pub mod Steps
pub mod Values
pub mod Policies
pub mod Claims
pub mod Set
pub mod Specified
pub mod SetReading
pub mod Readiness
pub mod Owners
pub mod Pod
pub mod Predicates
pub mod Firsts

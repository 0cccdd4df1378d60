-- ---- what public clauses cite
pub mod Callers
pub mod Examples
pub mod Linearizable
pub mod Linearization
pub mod Log
pub mod Order
pub mod Spared
pub mod Step
pub mod Trace
pub mod World
pub mod Facts

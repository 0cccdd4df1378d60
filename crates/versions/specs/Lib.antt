-- ---- what public clauses cite
pub mod Records
pub mod Compacted
pub mod Shard
pub mod Gathered
-- ---- what only proofs use
pub mod Held

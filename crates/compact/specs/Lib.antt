-- ---- what public clauses cite
pub mod Notes
pub mod Reads
pub mod Fields
pub mod Plain
-- ---- what only proofs use
pub mod Levels
pub mod Texts
pub mod Begins
pub mod Ended
pub mod Ordered
pub mod Places

-- ---- what public clauses cite
pub mod Lookup
-- ---- what only proofs use
pub mod Following
pub mod Pairing
pub mod Recorded

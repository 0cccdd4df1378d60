-- ---- what public clauses cite
pub mod Expanded
-- ---- what only proofs use
pub mod Delta
pub mod Kept
pub mod Written
pub mod Alike

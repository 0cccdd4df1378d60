-- ---- what public clauses cite
pub mod Keys
pub mod Keyed
pub mod Rows
pub mod Versions
pub mod Forgotten
-- ---- what only proofs use
pub mod Named
pub mod ShortName
pub mod Index
pub mod Records
pub mod Consistent

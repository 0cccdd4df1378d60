-- ---- what public clauses cite
pub mod Integer
pub mod Tree
pub mod Members
pub mod Building
pub mod Positions
pub mod Same
pub mod Steps
pub mod Reading
pub mod Integral
pub mod Canonical
pub mod Codes
-- ---- what only proofs use
pub mod TreeFalls
pub mod Text

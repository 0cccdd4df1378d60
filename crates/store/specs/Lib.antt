-- ---- what public clauses cite
pub mod History
pub mod Callers
pub mod Tickets
pub mod Rule
pub mod Views
pub mod Floors
-- ---- what only proofs use
pub mod Parts
pub mod Codes

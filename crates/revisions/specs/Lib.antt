-- ---- what public clauses cite
pub mod Revision
pub mod Name
pub mod Choice
pub mod Built
pub mod Plan
pub mod History
pub mod Listing
-- ---- what only proofs use
pub mod Chosen

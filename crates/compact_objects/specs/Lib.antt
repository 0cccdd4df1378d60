-- ---- what public clauses cite
pub mod Maps
pub mod Drafts
pub mod Texts
pub mod Lines
pub mod ReadFrom
-- ---- what only proofs use
pub mod Cursors
pub mod Merging
pub mod Seaming
pub mod Writes

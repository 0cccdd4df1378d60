-- ---- what public clauses cite
pub mod Gone
pub mod Reasons
pub mod Why
pub mod Lost
pub mod Laws
-- ---- what only private clauses cite
pub mod Found

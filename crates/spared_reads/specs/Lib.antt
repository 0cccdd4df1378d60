-- ---- what public clauses cite
pub mod Sparing

-- ---- what public clauses cite
pub mod Collectable

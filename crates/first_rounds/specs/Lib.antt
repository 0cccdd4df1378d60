-- ---- cited by public clauses
pub mod Notes
pub mod Obstacles

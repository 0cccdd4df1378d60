-- ---- cited by public clauses
pub mod Callers
pub mod Gone
pub mod Leading
pub mod Replaying
pub mod Scripting
-- ---- cited only by private clauses
pub mod Play
pub mod Same
pub mod Shown

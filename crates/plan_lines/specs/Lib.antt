-- ---- what public clauses cite
pub mod Actions
pub mod Brief
pub mod Formats
pub mod Objects
pub mod Output
pub mod Refusals
pub mod RefusedLines

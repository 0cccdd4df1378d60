-- ---- cited by public clauses
pub mod Asks
pub mod Looks
pub mod Questions
pub mod RaceLines
pub mod RaceTexts
pub mod RefusedLines

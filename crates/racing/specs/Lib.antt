-- ---- cited by public clauses
pub mod Answered
pub mod Parts
-- ---- cited only by inner contracts
pub mod Jobs
pub mod Children

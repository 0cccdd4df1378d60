-- ---- what public clauses cite
pub mod Rounds
pub mod Standing
pub mod Left
pub mod Stopped

-- ---- what public clauses cite
pub mod Rest
pub mod Still
pub mod Turns
pub mod Acting
pub mod Accepting
pub mod WholeRounds
pub mod RoundsOver

-- ---- cited by public clauses
pub mod AskedWords
pub mod Brief
pub mod Lined
pub mod ObjectWords
pub mod Printing
pub mod Stores

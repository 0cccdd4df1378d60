-- ---- cited by public clauses
pub mod Events
pub mod Printing
pub mod Refusals
pub mod Scripts
pub mod RequestLine
pub mod Turns
pub mod Sets
pub mod ClusterScripts
pub mod ClusterPrinting
pub mod RaceHistory

pub mod Readings
pub mod Written
pub mod CompactGets
pub mod CompactWrites
pub mod LineSplits
pub mod Flows
pub mod Servings
pub mod RunsOfLines

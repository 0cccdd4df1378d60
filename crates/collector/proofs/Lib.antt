pub mod Collected
pub mod Gone

pub mod Collected
pub mod Deletions
pub mod Grounds
pub mod Losses
pub mod Waits

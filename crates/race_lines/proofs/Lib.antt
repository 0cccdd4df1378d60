pub mod Placing
pub mod Sound
pub mod ToBlame

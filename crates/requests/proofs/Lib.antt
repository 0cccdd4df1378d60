pub mod Sameness
pub mod Denials

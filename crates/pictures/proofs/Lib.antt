pub mod Pieces
pub mod Runs
mod Asking

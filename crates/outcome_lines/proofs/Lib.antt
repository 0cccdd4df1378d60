pub mod Agreeing
pub mod ByText
pub mod Firsts
pub mod Leaving
pub mod Lines
pub mod Sending
pub mod Stored
pub mod ToldOnce

pub mod Ends
pub mod Plain
pub mod Answered
pub mod Short
pub mod Open
pub mod Asked
pub mod Stays
pub mod Rounds

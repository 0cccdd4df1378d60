pub mod Sent
pub mod Giving
pub mod Standing
pub mod Last
pub mod First
pub mod Operating
pub mod Rows
pub mod Joined

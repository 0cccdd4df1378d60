pub mod Changes
pub mod Followed
pub mod Paired
pub mod ReplyMarks
pub mod SameObjects

pub mod Labels
pub mod Lines
pub mod Heading
pub mod Shown
pub mod Picture
pub mod Story
-- Only private clauses cite these.
pub mod Asked

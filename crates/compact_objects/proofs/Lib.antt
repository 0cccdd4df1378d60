-- ---- drafts
mod Texts
mod Generations
mod Metas
mod Cursors
mod LabelTexts
mod OwnerTexts
mod Drafting
mod KindTexts
pub mod Readings
-- ---- texts
mod Merging
pub mod PlainNames
mod PlainTexts
mod HeldTexts
mod Maps
mod Seaming
pub mod Printable
mod Drafts
mod Lines
mod Rules
mod IndexedTexts
mod Braces
-- ---- writes
pub mod KnownDrafts
mod Specs
mod Creates
mod Updates
mod Statuses
mod Judged

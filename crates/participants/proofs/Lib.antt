pub mod Alike
pub mod Telling
pub mod Turning
pub mod Field
pub mod Hearing
pub mod Lists
pub mod Patches
pub mod Placing
pub mod Spares
pub mod Stands
mod SparedClaims
mod SparedKept
mod SparedLists
mod SparedOwners
mod SparedPlans
mod SparedReads
mod SparedSettling

pub mod Listings
pub mod Put
pub mod Actions
pub mod Finding
pub mod Wrong

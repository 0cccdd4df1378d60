pub mod Chains
pub mod ClaimNames
pub mod NameSets
pub mod Firsts
pub mod ClaimLabels

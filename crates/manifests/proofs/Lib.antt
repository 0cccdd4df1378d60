pub mod ItemLists
pub mod PodKeys
pub mod PodMetadata
pub mod ClaimKeys
pub mod ClaimMetadata
pub mod Merging
pub mod VolumeNames

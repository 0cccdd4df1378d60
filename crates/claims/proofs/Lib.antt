pub mod OwnerEntries
pub mod NamedClaims
pub mod PodClaims
pub mod ChangeLists
pub mod OwnerLaws

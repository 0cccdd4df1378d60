pub mod Calling
pub mod Going
pub mod Sameness
pub mod StoreLed
pub mod Telling
pub mod Walking

-- ---- what public clauses cite
pub mod Callers
pub mod Controllers
pub mod Field
pub mod Kubelets
pub mod Machine
pub mod Machines
pub mod Merging
pub mod Spared
pub mod Sparing
pub mod Stands

-- ---- what public clauses cite
pub mod Accepted
pub mod Before
pub mod Drafts
pub mod Examples
pub mod Incarnation
pub mod Kubelet
pub mod Phase
pub mod Planned
pub mod Promises
pub mod Reconciler
pub mod Sound
pub mod Transcript
pub mod World
-- ---- what only proofs use
pub mod Shown

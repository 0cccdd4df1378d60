-- ---- what public clauses cite
pub mod Actions
pub mod FullPlan
pub mod Plan
pub mod PlanOfLists
pub mod Laws
pub mod Truncation
-- ---- what only proofs use
pub mod Order
pub mod SplitName
-- ---- of the crates below
pub use Rattle.claims.specs.Changes
pub use Rattle.claims.specs.Listed
pub use Rattle.claims.specs.Owners
pub use Rattle.collector.specs.Collectable
pub use Rattle.manifests.specs.BuiltClaim
pub use Rattle.manifests.specs.BuiltPod
pub use Rattle.manifests.specs.BuiltStatus
pub use Rattle.manifests.specs.Template
pub use Rattle.manifests.specs.Volumes
pub use Rattle.revisions.specs.Built
pub use Rattle.revisions.specs.Choice
pub use Rattle.revisions.specs.History
pub use Rattle.revisions.specs.Name
pub use Rattle.revisions.specs.Plan as Revisions
pub use Rattle.revisions.specs.Revision
pub use Rattle.pod_steps.specs.Listed as Replicas
pub use Rattle.pod_steps.specs.Scaling
pub use Rattle.pod_steps.specs.Status
pub use Rattle.pod_steps.specs.Step
pub use Rattle.pod_steps.specs.Update
pub use Rattle.pod_steps.specs.Views
pub use Rattle.pod_steps.specs.FullSteps as Steps
pub use Rattle.set_views.specs.Pod
pub use Rattle.set_views.specs.Readiness
pub use Rattle.set_views.specs.Set
pub use Rattle.set_views.specs.SetReading
pub use Rattle.set_views.specs.Steps as Refusals
pub use Rattle.set_views.specs.Predicates

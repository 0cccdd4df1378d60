-- ---- what public clauses cite
pub mod After
pub mod Named
pub mod Begun
pub mod Mirrors
pub mod NextStep
pub mod Replayed
pub mod CallerPhase
-- ---- of the crate below
pub use Rattle.interleavings.specs.Callers
pub use Rattle.interleavings.specs.Examples
pub use Rattle.interleavings.specs.Linearizable
pub use Rattle.interleavings.specs.Linearization
pub use Rattle.interleavings.specs.Log
pub use Rattle.interleavings.specs.Order
pub use Rattle.interleavings.specs.Spared
pub use Rattle.interleavings.specs.Step
pub use Rattle.interleavings.specs.Trace
pub use Rattle.interleavings.specs.World

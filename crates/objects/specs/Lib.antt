-- ---- what public clauses cite
pub mod Names
pub mod Kind
pub mod Key
pub mod KeyOrder
pub mod Meta
pub mod MetadataShape
pub mod Object
pub mod New
pub mod Status
pub mod Rewrites
pub mod Metadata
pub mod Steps
pub mod Reading
pub mod Text
pub mod Again
pub mod PodNames
pub mod ShardOf
pub mod Uid
pub mod PrintedText
pub mod Seams
pub mod Header
-- ---- what only proofs use
pub mod Merged
-- ---- of the crate below
pub use Rattle.trees.specs.Integer
pub use Rattle.trees.specs.Tree
pub use Rattle.trees.specs.declared.tree.Tree as DeclaredTree
pub use Rattle.trees.specs.Members
pub use Rattle.trees.specs.Building
pub use Rattle.trees.specs.Positions
pub use Rattle.trees.specs.Same
pub use Rattle.trees.specs.Integral
pub use Rattle.trees.specs.Canonical

-- ---- what public clauses cite
pub mod Seat
pub mod Notes
pub mod NotedView
pub mod NotedSteps
pub mod View
pub mod Rule
pub mod NotedRule
pub mod Steps
-- ---- what only proofs use
pub mod Blanks

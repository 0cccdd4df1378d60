-- ---- what public clauses cite
pub mod Admission
pub mod Change
pub mod ChangeKinds
pub mod DrawnRevisions
pub mod Judgments
pub mod Keys
pub mod Lists
pub mod Reasons
pub mod Same
pub mod Verdict

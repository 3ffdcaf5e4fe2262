pub mod Commits
pub mod Fields
pub mod Laws

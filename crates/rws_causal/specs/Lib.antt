pub mod Rules
pub mod Commits

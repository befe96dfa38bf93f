pub mod Requests
pub mod Commands
pub mod Errors
pub mod Statements
pub mod Judging

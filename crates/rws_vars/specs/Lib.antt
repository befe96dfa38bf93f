pub mod Assignments
pub mod Map
pub mod Commands
pub mod Reductions
pub mod States

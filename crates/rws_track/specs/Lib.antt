pub mod State
pub mod Client

pub mod Targets
pub mod Modes
pub mod Values
pub mod Items
pub mod Views
pub mod Search
pub mod Walks
pub mod States

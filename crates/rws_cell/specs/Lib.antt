pub mod Packing
pub mod Passes
pub mod Rule
pub mod Shown
pub mod Views

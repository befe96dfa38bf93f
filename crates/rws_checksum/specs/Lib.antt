pub mod Layout
pub mod Sums

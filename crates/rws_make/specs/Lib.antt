pub mod Makers
pub mod Plans
pub mod Unsent
pub mod Zeros

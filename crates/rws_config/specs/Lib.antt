pub mod Address
pub mod Allowed
pub mod BuiltIn
pub mod Keys
pub mod Values
pub mod Settings
pub mod Faults

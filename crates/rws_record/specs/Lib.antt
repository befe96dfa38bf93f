pub mod Item
pub mod Values
pub mod Log
pub mod Rules
pub mod Record
pub mod Outputs
pub mod Run
pub mod Laws

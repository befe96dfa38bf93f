-- what a front sends
pub mod Refusals
pub mod Messages
-- who may log in
pub mod Accesses
-- where a front stands, and its next step
pub mod Fronting
pub mod Connection
pub mod Names
-- laws
pub mod Laws

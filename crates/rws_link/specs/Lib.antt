-- what is said in a login
pub mod Handshake
-- a link's steps, and what a link keeps
pub mod Stepping
pub mod Linking
-- laws
pub mod Laws

-- the grammar
pub mod Payloads
pub mod Replies
pub mod Roles
-- a tracker, and what it says
pub mod Machine
pub mod Tracking
-- what a client gets
pub mod ClientForm
-- what the definitions mean
pub mod Laws

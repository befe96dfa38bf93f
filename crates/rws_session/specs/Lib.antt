-- what a session keeps, as a function of its record
pub mod State
pub mod Kept
pub mod Steps
pub mod Bounds
-- a turn
pub mod Turning

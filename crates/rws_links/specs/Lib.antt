-- a link as a session keeps it, as a function of a record
pub mod Links
-- the table of them
pub mod Table
-- what is found in it
pub mod Finding
-- the session's history
pub mod History
-- what the loss of one means
pub mod Losses
-- what they hold
pub mod Bounds

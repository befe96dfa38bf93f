-- the log, and a command that is put there
pub mod Logs
pub mod LogView
pub mod Sending
-- a replay of it
pub mod Replays
pub mod Runs

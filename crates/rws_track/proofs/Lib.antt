-- the variables that a state shows, and the last GTID among them
pub mod StateLemmas

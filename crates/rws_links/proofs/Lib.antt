-- two numbers that differ
pub mod NumberLemmas
-- the table, as that of a record's links
pub mod TableLemmas
-- one of them, by its number
pub mod PlaceLemmas
-- the login of the first account
pub mod LoginLemmas
-- what is found in it
pub mod FindLemmas
-- in a legal record no link stands twice
pub mod DistinctLemmas
-- what links hold
pub mod HoldLemmas

-- the built-in settings
pub mod BuiltInLemmas
-- the values of a file
pub mod ArrayLemmas
pub mod AddressLemmas
-- the first fault
pub mod LeastLemmas
pub mod DocumentLemmas
pub mod GivesLemmas
-- what is read is allowed
pub mod AllowedLemmas

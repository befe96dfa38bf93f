-- reading from left to right, numbers and length-encoded integers
pub mod ReadingLemmas
pub mod NumberLemmas
pub mod LenencLemmas
-- one packet, then one payload, read and written
pub mod PacketLemmas
pub mod PayloadLemmas
pub mod FramingLemmas
pub mod GatheringLemmas
pub mod DueLemmas
pub mod DeframerLemmas
-- what bytes begin with, and whole streams
pub mod BeginningLemmas
pub mod LengthLemmas
pub mod StreamLemmas

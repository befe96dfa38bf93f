-- one GTID: its digits, and its text
pub mod DigitLemmas
pub mod SpellingLemmas
-- a list: cut at its first comma, entry by entry, and its text
pub mod CommaLemmas
pub mod EntryLemmas
pub mod ListLemmas

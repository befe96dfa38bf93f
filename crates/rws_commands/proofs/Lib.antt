-- what the code's answers stand on
pub mod EntryLemmas
pub mod StaleLemmas
pub mod ExecuteLemmas

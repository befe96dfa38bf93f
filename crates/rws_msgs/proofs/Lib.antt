-- fields, read and written
pub mod FieldLemmas
pub mod WritingLemmas
-- what is decoded, what is written and decoded again, message by message
pub mod MemoryLemmas
pub mod OkLemmas
pub mod ErrLemmas
pub mod EofLemmas
pub mod PrepareOkLemmas
pub mod SwitchLemmas
pub mod ExecuteLemmas
pub mod GreetingLemmas
pub mod ResponseLemmas

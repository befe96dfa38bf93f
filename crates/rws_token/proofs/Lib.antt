pub mod LexedLemmas
pub mod GrammarLemmas
pub mod SpanLemmas

pub mod CellLemmas
pub mod PartLemmas
pub mod GrammarLemmas
pub mod OneValueLemmas

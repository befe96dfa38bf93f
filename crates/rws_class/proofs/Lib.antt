pub mod FormLemmas
pub mod ClassLemmas
